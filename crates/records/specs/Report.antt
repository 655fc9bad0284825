-- The bytes of a table and of a report.
use Rattle.std.specs.Prelude.{ℕ, ◌+◌, ◌-◌, ◌*◌, ◌/◌, length, take, drop}
use mathlib.Core.List.{List, [], ◌∷◌, ◌++◌, flat_map}
use Rattle.theory.specs.Row.{Row}
use Rattle.placement.specs.Core.{Table}
use Rattle.placement.specs.Figures.{Figures}
use Rattle.records.specs.Number.{four_bytes}

-- kind 1: the number of cores
abbrev pub cores_record : ℕ → List ℕ
cores_record cores = 1 ∷ cores ∷ []

-- kind 2: C, D, T
abbrev pub row_record : Row → List ℕ
row_record row = 2 ∷ four_bytes row.C ++ (four_bytes row.D ++ four_bytes row.T)

-- kind 3: core, response time, allowance
abbrev pub figures_record : Figures → List ℕ
figures_record figures = 3 ∷ figures.core ∷ four_bytes figures.response ++ four_bytes figures.allowance

-- kind 4: the number of rows
abbrev pub count_record : List Row → List ℕ
count_record rows = 4 ∷ length rows ∷ []

-- kind 1 and kind 2: what a report has of its table unchanged
unfoldable pub table_records : Table → List ℕ
table_records table = cores_record table.cores ++ flat_map row_record table.rows

-- the bytes of a table
unfoldable pub table_bytes : Table → List ℕ
table_bytes table = table_records table ++ count_record table.rows

-- the bytes of a report: the table's records, a kind 3 for each row in table order, kind 4
unfoldable pub report_bytes : Table → List Figures → List ℕ
report_bytes table figures = table_records table ++ (flat_map figures_record figures ++ count_record table.rows)

-- the bytes of a report on n rows
abbrev pub report_length : ℕ → ℕ
report_length n = 4 + 23 * n

-- the table's bytes inside a report of 4 + 23n bytes: its first 2 + 13n and its last two
unfoldable pub table_in_report : List ℕ → List ℕ
table_in_report report = let n = (length report - 4) / 23 in take (2 + 13 * n) report ++ drop (2 + 23 * n) report
