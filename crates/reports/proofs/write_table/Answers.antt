-- `write_table` meets its contract.
use mathlib.Core.Path.{sym, ap, ◌∙◌}
use Prim.Native.Nat.{ℕ, ◌+◌, ◌*◌}
use mathlib.Core.List.{List, [], ◌∷◌, ◌++◌, flat_map}
use native.Mathlib.Omega.{arith}
use lib.ListN.{length}
use Rattle.theory.specs.Lists.{filled}
use Rattle.theory.proofs.RowsOf.{rows_of_length}
use Rattle.rows.specs.Values.{rows_listed}
use Rattle.records.specs.Report.{row_record, table_records, table_bytes}
use Rattle.reports.proofs.Written.{three_written, three_fill}
use Rattle.reports.proofs.FirstRows.{row_records_length}
use Rattle.reports.proofs.write_table.Goals as goal

pub returns : goal.returns
unfolding table_bytes table_records
returns c =
    let third = c.write_kind-2 in
    let second = c.write_rows in
    let first = c.write_kind in
    let args = c.args in
    let bytes = args.bytes.now in
    let lists = args.rows.now in
    let n = length lists.c.now in
    let kind : List ℕ = 1 ∷ args.cores ∷ [] in
    let rows = flat_map row_record (rows_listed lists) in
    let long = row_records_length lists in
    three_written bytes first.new.report second.new.bytes third.new.report 0 2 (2 + 13 * n) kind rows (4 ∷ n ∷ [])
    (omega arith) (omega arith) (omega (arith, long)) first.ensures (rw long second.ensures) third.ensures
    ∙ three_fill bytes kind rows (4 ∷ n ∷ [])
    ∙ ap (λ (count : ℕ). filled (kind ++ (rows ++ (4 ∷ count ∷ []))) bytes) (sym (rows_of_length lists.c.now lists.d.now lists.t.now lists.as_many_deadlines lists.as_many_periods))
