-- `read_lists` meets its contract: whether byte strings are rows is told by their lengths alone, and rows are read as the numbers that they are.
use mathlib.Core.Path.{sym, ap, ◌∙◌}
use Prim.Native.Nat.{ℕ, ◌/◌}
use native.Mathlib.Omega.{arith}
use lib.ListN.{take}
use Rattle.entries.specs.Lists.{no_rows, as_lists}
use Rattle.entries.proofs.RowBytes.{lengths_of_rows, rows_of_lengths}
use Rattle.entries.proofs.read_lists.Goals as goal

pub returns-then-bytes-ne0 : goal.returns-then-bytes-ne0
returns-then-bytes-ne0 c = no_rows (λ rows. omega (arith, c.then-bytes-ne0.either, lengths_of_rows _ _ _ rows))

pub returns : goal.returns
returns c =
    let ds = c.read_numbers-ds in
    let ts = c.read_numbers-ts in
    let rows = rows_of_lengths c.args.c.now c.args.d.now c.args.t.now (record { fours = omega arith; as_many_deadlines = omega arith; as_many_periods = omega arith; some_row = omega arith; no_25th = omega arith }) in
    as_lists _ (omega arith) rows.fours c.read_numbers-cs.ensures.result_value
    (ap (λ (bytes : ℕ). take (bytes / 4) ds.result) (sym c.if-d-bytes.false) ∙ ds.ensures.result_value)
    (ap (λ (bytes : ℕ). take (bytes / 4) ts.result) (sym c.if-t-bytes.false) ∙ ts.ensures.result_value)
