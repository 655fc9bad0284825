-- How many bytes are written.
use mathlib.Core.Path.{◌≡◌, refl}
use Prim.Native.Nat.{ℕ, ◌+◌, ◌*◌}
use mathlib.Core.List.{List, [], ◌∷◌, flat_map}
use native.Mathlib.Omega.{arith}
use lib.ListN.{length, length-append}
use Rattle.placement.specs.Core.{Table}
use Rattle.placement.specs.Figures.{Figures}
use Rattle.records.specs.Number.{four_bytes}
use Rattle.records.specs.Report.{row_record, figures_record, count_record, table_records, table_bytes, report_bytes, report_length}

-- as many bytes for each of a list
pub flat_map_length : {A : Type 0} (bytes : A → List ℕ) (n : ℕ) → ((a : A) → length (bytes a) ≡ n) → (xs : List A) → length (flat_map bytes xs) ≡ n * length xs
unfolding flat_map
flat_map_length bytes n each [] = omega arith
flat_map_length bytes n each (x ∷ xs) = omega (arith, length-append (bytes x) (flat_map bytes xs), each x, flat_map_length bytes n each xs)

-- kind 1 and kind 2 records: 2 bytes, and 13 for each row
pub table_records_length : (t : Table) → length (table_records t) ≡ 2 + 13 * length t.rows
unfolding table_records four_bytes
table_records_length t = omega (arith, flat_map_length row_record 13 (λ row. refl) t.rows)

-- a table has 4 + 13n bytes
pub table_bytes_length : (t : Table) → length (table_bytes t) ≡ 4 + 13 * length t.rows
unfolding table_bytes
table_bytes_length t = omega (arith, length-append (table_records t) (count_record t.rows), table_records_length t)

-- kind 3 records: 10 bytes for each row
pub figures_records_length : (all : List Figures) → length (flat_map figures_record all) ≡ 10 * length all
unfolding four_bytes
figures_records_length all = flat_map_length figures_record 10 (λ figures. refl) all

-- a report has 4 + 23n bytes
pub report_length_lem : (t : Table) (all : List Figures) → length all ≡ length t.rows → length (report_bytes t all) ≡ report_length (length t.rows)
unfolding report_bytes
report_length_lem t all one_each = simp (length-append, table_records_length, figures_records_length) (omega arith)
