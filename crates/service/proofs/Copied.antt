-- An accepted report begins with the table's kind 1 and kind 2 records, unchanged: each row of the table stands in it.
use mathlib.Core.Path.{◌≡◌, sym, ◌∙◌, ap}
use Prim.Native.Nat.{ℕ, zero, suc, ◌+◌, ◌*◌, ◌<◌, suc-le-suc}
use mathlib.Core.List.{List, [], ◌∷◌, ◌++◌, flat_map, append_assoc}
use native.Mathlib.Omega.{arith}
use native.Mathlib.Nat.{le_of_suc-le-suc}
use lib.ListN.{length, take, drop, take-append-drop}
use lib.Seq.{drop-drop, take_at}
use Rattle.theory.specs.Returned.{Returned, returned}
use Rattle.theory.specs.Row.{Row, row_at, AllWithin}
use Rattle.theory.specs.Lists.{filled}
use Rattle.placement.specs.Core.{Table}
use Rattle.placement.specs.Choice.{Rule}
use Rattle.placement.specs.Figures.{Figures}
use Rattle.records.specs.Number.{four_bytes}
use Rattle.records.specs.Reading.{TableWithin, table, read_table, row_in}
use Rattle.records.specs.Report.{row_record, figures_record, count_record, table_records, table_bytes, report_bytes}
use Rattle.records.proofs.ReadingRecord.{row_reads_back}
use Rattle.records.proofs.ReadingBack.{table_reads_back}
use Rattle.records.proofs.Lengths.{table_records_length}
use Rattle.service.specs.Table.{TableAnswered}
use Rattle.service.proofs.Accepted.{accepted_report}

-- in bytes that begin with rows' records, each row stands at its place
row_stands : (rows : List Row) (others : List ℕ) → AllWithin rows → (i : ℕ) → i < length rows → row_in (drop (1 + 13 * i) (flat_map row_record rows ++ others)) ≡ row_at rows i
unfolding flat_map four_bytes
row_stands [] others within i inside = absurd (omega arith)
row_stands (row ∷ rows) others within zero inside = row_reads_back row (flat_map row_record rows ++ others) (within 0 inside)
row_stands (row ∷ rows) others within (suc i) inside =
    let behind : 1 + 13 * suc i ≡ 13 + (1 + 13 * i) = omega arith in
    rw (behind, ← drop-drop (1 + 13 * i) 13 (flat_map row_record (row ∷ rows) ++ others)) (row_stands rows others (λ k h. within (suc k) (suc-le-suc h)) i (le_of_suc-le-suc inside))

module _ (rule : Rule) (t : Table) (within : TableWithin t) (report : List ℕ) where
  -- the bytes of kind 1 and kind 2
  abbrev copied : ℕ
  copied = 2 + 13 * length t.rows

  begins : (all : List Figures) → take copied (filled (report_bytes t all) report) ≡ table_records t
  unfolding report_bytes
  begins all =
      let behind = flat_map figures_record all ++ count_record t.rows in
      let kept = drop (length (report_bytes t all)) report in
      ap (take copied) (append_assoc (table_records t) behind kept) ∙ take_at (table_records t) (behind ++ kept) copied (table_records_length t)

  own_table : (u : Table) → read_table (table_bytes t) ≡ table u → u ≡ t
  own_table u reads = let own = table_reads_back t within in cc

  -- AN ACCEPTED REPORT BEGINS WITH THE TABLE
  pub table_copied : {returns : Returned} {after : List ℕ} → TableAnswered rule (table_bytes t) report returns after → returns ≡ returned 0 0 → take copied after ≡ table_records t
  table_copied answered accepted =
      let report-of = accepted_report answered accepted in
      ap (take copied) (report-of.is_report ∙ ap (λ (x : Table). filled (report_bytes x report-of.figures) report) (own_table report-of.of_table report-of.is_table_lem)) ∙ begins report-of.figures

  -- behind the kind of its record each row stands in it
  pub row_copied : {returns : Returned} {after : List ℕ} → TableAnswered rule (table_bytes t) report returns after → returns ≡ returned 0 0
      → (i : ℕ)
      → i < length t.rows
      → row_in (drop (3 + 13 * i) after) ≡ row_at t.rows i
  unfolding table_records
  row_copied {after} answered accepted i inside =
      let split : after ≡ table_records t ++ drop copied after = sym (take-append-drop copied after) ∙ ap (λ (front : List ℕ). front ++ drop copied after) (table_copied answered accepted) in
      let behind : 3 + 13 * i ≡ 2 + (1 + 13 * i) = omega arith in
      ap (λ (bytes : List ℕ). row_in (drop (3 + 13 * i) bytes)) split ∙ rw (behind, ← drop-drop (1 + 13 * i) 2 (table_records t ++ drop copied after)) (row_stands t.rows (drop copied after) within.rows_within i inside)
