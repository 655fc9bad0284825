-- The bytes of a table that keeps the rules are read as that table.
use mathlib.Core.Path.{◌≡◌, refl, ap, ◌∙◌}
use Prim.Native.Nat.{ℕ, zero, suc, ◌≤◌, suc-le-suc}
use native.Mathlib.Nat.{le_of_suc-le-suc}
use mathlib.Core.List.{List, [], ◌∷◌, ◌++◌, flat_map, append-nil}
use native.Mathlib.Omega.{arith}
use lib.ListN.{length}
use lib.Seq.{append_snoc}
use borrow.Author.Tests.{le-leb, eq-eqb}
use Rattle.theory.specs.Row.{Row, WithinLimits, AllWithin}
use Rattle.theory.proofs.Limits.{keeping_limits_passes}
use Rattle.placement.specs.Core.{Table}
use Rattle.records.specs.Number.{four_bytes}
use Rattle.records.specs.Reading.{TableWithin, Reading, table, read_count, read_row, read_record, read_rows, read_cores, read_table}
use Rattle.records.specs.Report.{row_record, count_record, table_records, table_bytes}
use Rattle.records.proofs.ReadingRecord.{row_body, row_reads_back}

-- a kind 2 record is read as its row, and reading goes on behind it
pub row_record_read :
    (cores : ℕ) (rows : List Row) (next : Row → List ℕ → Reading) (row : Row) (after : List ℕ)
    → WithinLimits row
    → read_record cores rows (read_row rows next) (row_record row ++ after) ≡ next row after
unfolding read_record read_row four_bytes
row_record_read cores rows next row after within =
    let same = row_reads_back row after within in
    rw (le-leb 12 (length (row_body row after)) (omega arith), read_row)
    (rw (same, keeping_limits_passes row within) (ap (λ r. next r after) same))

-- a kind 4 record that states the number of rows read is read as the table, if there are rows and nothing comes after
pub count_record_read :
    (cores : ℕ) (rows : List Row) (row : List ℕ → Reading) → 1 ≤ length rows
    → read_record cores rows row (count_record rows) ≡ table (record { cores = cores; rows = rows })
unfolding read_record read_count
count_record_read cores [] row some = absurd (omega arith)
count_record_read cores (first ∷ rows) row some = rw (eq-eqb (length (first ∷ rows)) (length (first ∷ rows)) refl, read_count)

-- the count ends the reading, however many rows might still have come
count_read_back : (left cores : ℕ) (rows : List Row) → 1 ≤ length rows → read_rows left cores rows (count_record rows) ≡ table (record { cores = cores; rows = rows })
unfolding read_rows
count_read_back zero cores rows some = count_record_read cores rows _ some
count_read_back (suc left) cores rows some = count_record_read cores rows _ some

-- the rest of a table behind the rows read so far is read
rows_read_back :
    (left cores : ℕ) (rows more : List Row) → AllWithin more → length more ≤ left → 1 ≤ length (rows ++ more)
    → read_rows left cores rows (flat_map row_record more ++ count_record (rows ++ more)) ≡ table (record { cores = cores; rows = rows ++ more })
unfolding read_rows flat_map four_bytes
rows_read_back left cores rows [] within few some = rw append-nil (count_read_back left cores rows (rw append-nil at some))
rows_read_back zero cores rows (row ∷ more) within few some = absurd (omega arith)
rows_read_back (suc left) cores rows (row ∷ more) within few some =
    row_record_read cores rows _ row _ (within 0 (omega arith))
    ∙ rw (← append_snoc rows row more)
    (rows_read_back left cores (rows ++ (row ∷ [])) more (λ k inside. within (suc k) (suc-le-suc inside)) (le_of_suc-le-suc few) (rw append_snoc some))

-- reading the bytes of a table that keeps the rules gives the table
pub table_reads_back : (t : Table) → TableWithin t → read_table (table_bytes t) ≡ table t
unfolding read_table read_cores table_bytes table_records
table_reads_back t within =
    rw (le-leb 1 t.cores within.some_core, le-leb t.cores 8 within.no_9th_core, read_cores)
    (rows_read_back _ t.cores [] t.rows within.rows_within (omega arith) within.some_row)
