-- What the services on a spreadsheet's text return, and what their lent bytes hold at the end: document 02, request 2. The faults of reading in their order; then, for
-- the certificate, 6 and then 7; for the table's bytes, 7.
use Rattle.std.specs.Prelude.{◌≡◌, ℕ, suc, ◌≤◌, ◌<◌, List, length}
use Rattle.theory.specs.Returned.{Returned, returned}
use Rattle.theory.specs.Lists.{filled}
use Rattle.placement.specs.Core.{Table}
use Rattle.placement.specs.Choice.{Rule}
use Rattle.placement.specs.Placement.{Stopped}
use Rattle.placement.specs.Figures.{Figures, Certified}
use Rattle.records.specs.Reading.{table, refused}
use Rattle.records.specs.Report.{table_bytes}
use Rattle.texts.specs.Table.{read_text}
use Rattle.texts.specs.Columns.{certified_text}

-- what the certificate of a text on a number of cores returns, how many bytes it writes, and the lent bytes at the end
pub data TextAnswered (rule : Rule) (cores : ℕ) (text lent : List ℕ) : Returned → ℕ → List ℕ → Type 0 where
  not_a_table :
      (number row : ℕ)
      → read_text cores text ≡ refused number row
      → TextAnswered rule cores text lent (returned number row) 0 lent
  no_core_takes_it :
      (t : Table) (i : ℕ)
      → read_text cores text ≡ table t
      → Stopped rule t i
      → TextAnswered rule cores text lent (returned 6 (suc i)) 0 lent
  output_too_short :
      (t : Table) (all : List Figures)
      → read_text cores text ≡ table t
      → Certified rule t all
      → length lent < length (certified_text t.rows all)
      → TextAnswered rule cores text lent (returned 7 0) 0 lent
  accepted :
      (t : Table) (all : List Figures)
      → read_text cores text ≡ table t
      → Certified rule t all
      → length (certified_text t.rows all) ≤ length lent
      → TextAnswered rule cores text lent (returned 0 0) (length (certified_text t.rows all)) (filled (certified_text t.rows all) lent)

-- the same of the table's bytes
pub data TextTabled (cores : ℕ) (text lent : List ℕ) : Returned → ℕ → List ℕ → Type 0 where
  not_a_table :
      (number row : ℕ)
      → read_text cores text ≡ refused number row
      → TextTabled cores text lent (returned number row) 0 lent
  output_too_short :
      (t : Table)
      → read_text cores text ≡ table t
      → length lent < length (table_bytes t)
      → TextTabled cores text lent (returned 7 0) 0 lent
  accepted :
      (t : Table)
      → read_text cores text ≡ table t
      → length (table_bytes t) ≤ length lent
      → TextTabled cores text lent (returned 0 0) (length (table_bytes t)) (filled (table_bytes t) lent)
