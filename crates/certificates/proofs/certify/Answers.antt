-- `certify` meets its contract: the rows are placed, and each core's figures are written.
use mathlib.Core.Path.{◌≡◌, sym, subst, ◌∙◌}
use mathlib.Core.List.{List}
use Prim.Native.Nat.{ℕ}
use native.Mathlib.Omega.{arith}
use lib.ListN.{length, replicate}
use lib.Seq.{length-take-le}
use Rattle.std.proofs.Common.{rules}
use Rattle.std.specs.Prelude.{Err}
use Rattle.cores.specs.Cores.{HoldsCores}
use Rattle.placing.specs.Placed.{table_in}
use Rattle.placing.proofs.Turn.{many_rows}
use Rattle.certificates.proofs.Held.{take_zeros, refused_held, accepted_placed, placed_rows, fronts_certified}
use Rattle.certificates.proofs.certify.Goals as goal

pub place_rows-requires-clause-core_value : goal.place_rows-requires-clause-core_value
place_rows-requires-clause-core_value c =
    let zeros = take_zeros (length c.args.rows.now.c.now) 24 c.args.rows.now.shaped.no_25th in
    (zeros, subst (λ (assignment : List ℕ). HoldsCores assignment c.with_no_rows-held.result.rows c.with_no_rows-held.result.counts) (sym zeros) (c.with_no_rows-held.ensures (length c.args.rows.now.c.now)))

pub returns-in_err-place_rows : goal.returns-in_err-place_rows
returns-in_err-place_rows c =
    let same : c.from_residual.result ≡ Err c.in_err-place_rows.field-0.0 = search rules in
    rw same (refused_held c.place_rows.ensures c.in_err-place_rows.was)

pub write_figures-requires-clause-placed_rows : goal.write_figures-requires-clause-placed_rows
write_figures-requires-clause-placed_rows c =
    let placed = accepted_placed c.place_rows.ensures c.in_ok-place_rows.was in
    placed_rows c.requires placed.0 placed.1

pub returns : goal.returns
returns c =
    let n = length c.args.rows.now.c.now in
    let many = many_rows c.args.rows.now in
    let placed = accepted_placed c.place_rows.ensures c.in_ok-place_rows.was in
    let zeros = length-take-le n (replicate 24 0) c.args.rows.now.shaped.no_25th in
    fronts_certified (table_in c.args.cores c.args.rows.now) _ _ _ n (sym many) (c.write_figures.auto.responses ∙ zeros) (c.write_figures.auto.allowances ∙ zeros) placed.0
    (λ i h. c.write_figures.ensures (placed_rows c.requires placed.0 placed.1) i (omega (arith, h, many)))
