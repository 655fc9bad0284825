-- A report holds its table whole: the table reads back from it, and no other table has the same report.
use mathlib.Core.Path.{◌≡◌, ap}
use Prim.Native.Nat.{ℕ, ◌+◌, ◌-◌, ◌*◌, ◌/◌}
use mathlib.Core.List.{List, ◌++◌, flat_map, append_assoc}
use native.Mathlib.Omega.{arith}
use lib.ListN.{length, take, drop, length-append}
use lib.Seq.{take_at, drop_at}
use Rattle.placement.specs.Core.{Table}
use Rattle.placement.specs.Figures.{Figures}
use Rattle.records.specs.Reading.{table, TableWithin, read_table}
use Rattle.records.specs.Report.{figures_record, count_record, table_records, table_bytes, report_bytes, table_in_report}
use Rattle.records.proofs.Lengths.{table_records_length, figures_records_length, report_length_lem}
use Rattle.records.proofs.ReadingBack.{table_reads_back}

-- what stands before and behind a middle part
ends : (front middle back : List ℕ) (m n : ℕ) → length front ≡ m → length (front ++ middle) ≡ n
    → take m (front ++ (middle ++ back)) ++ drop n (front ++ (middle ++ back)) ≡ front ++ back
ends front middle back m n e f = rw (take_at front (middle ++ back) m e) (ap (λ bytes. front ++ bytes) (rw append_assoc at (drop_at (front ++ middle) back n f)))

-- the bytes of the table stand in its report
pub table_stands_in_report : (t : Table) (all : List Figures) → length all ≡ length t.rows → table_in_report (report_bytes t all) ≡ table_bytes t
unfolding table_in_report table_bytes report_bytes
table_stands_in_report t all one_each =
    let rows : (length (report_bytes t all) - 4) / 23 ≡ length t.rows = omega (arith, report_length_lem t all one_each) in
    let figures-behind = length-append (table_records t) (flat_map figures_record all) in
    rw rows
    (ends (table_records t) (flat_map figures_record all) (count_record t.rows) (2 + 13 * length t.rows) (2 + 23 * length t.rows)
    (table_records_length t)
    (omega (arith, figures-behind, table_records_length t, figures_records_length all)))

-- the table reads back from its report
pub report_reads_back :
    (t : Table) (all : List Figures) → TableWithin t → length all ≡ length t.rows → read_table (table_in_report (report_bytes t all)) ≡ table t
report_reads_back t all within one_each = rw (table_stands_in_report t all one_each) (table_reads_back t within)

-- two tables with the same report are the same
pub report_determines_table :
    (t u : Table) (all others : List Figures) → TableWithin t → TableWithin u → length all ≡ length t.rows → length others ≡ length u.rows
    → report_bytes t all ≡ report_bytes u others
    → t ≡ u
report_determines_table t u all others t_within u_within one_each others-each same =
    cc (report_reads_back t all t_within one_each, report_reads_back u others u_within others-each)
