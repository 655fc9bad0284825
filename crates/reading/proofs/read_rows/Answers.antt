use mathlib.Core.Path.{refl, ◌∙◌}
use native.Mathlib.Omega.{arith}
use mathlib.Core.List.{◌∷◌}
use Rattle.std.specs.Prelude.{Ok, Err}
use Rattle.std.proofs.lemmas.Result.{err_from_is_err_and}
use Rattle.rows.specs.Values.{row_of}
use Rattle.rows.proofs.Fronts.{held_rows_many}
use Rattle.records.proofs.Reading.{read_table_within}
use Rattle.reading.proofs.Bytes.{rest_whole}
use Rattle.reading.proofs.CoresThere.{cores_in_range}
use Rattle.reading.proofs.SoFar.{begins, goes_on, ends}
use Rattle.reading.proofs.read_rows.Goals as goal

pub loop-row-init : goal.loop-row-init
loop-row-init c = begins c.args.records.now c.args.cores _ _ _ (record { no_25th_row = omega arith; c_long = refl; d_long = refl; t_long = refl })

pub returns-in_err-row : goal.returns-in_err-row
returns-in_err-row c =
    let turn = c.loop-row in
    let p = err_from_is_err_and c.from_residual.result c.from_residual.ensures.1 in
    rw (p.1, p.2) (ends c.args.records.now c.args.cores turn.c turn.d turn.t turn.n turn.rest.now turn.invariant (Err c.in_err-row.field-0.0) c.in_err-row.ensures)

pub loop-row-preserved : goal.loop-row-preserved
loop-row-preserved c =
    let turn = c.loop-row in
    rw (rest_whole 13 turn.rest.now)
    (goes_on c.args.records.now c.args.cores turn.c turn.d turn.t turn.n turn.rest.now turn.invariant (row_of c.in-Some.row) (rw c.in-Some.is at c.in_ok-row.ensures))

pub invariant_of-held : goal.invariant_of-held
invariant_of-held c =
    let records = c.args.records.now in
    let cores = c.args.cores in
    let turn = c.loop-row in
    let ended = ends records cores turn.c turn.d turn.t turn.n turn.rest.now turn.invariant (Ok tt) (rw c.in_default.is at c.in_ok-row.ensures) in
    let bytes = 1 ∷ cores ∷ records in
    let within = read_table_within bytes _ (cores_in_range bytes (omega arith) refl cores refl c.requires.0 c.requires.1 ∙ ended) in
    record { held = turn.invariant.held; some_row = omega (arith, within.some_row, held_rows_many turn.c turn.d turn.t turn.n turn.invariant.held); within = within.rows_within }

pub returns : goal.returns
returns c =
    let turn = c.loop-row in
    ends c.args.records.now c.args.cores turn.c turn.d turn.t turn.n turn.rest.now turn.invariant (Ok tt) (rw c.in_default.is at c.in_ok-row.ensures)
