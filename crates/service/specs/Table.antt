-- What the table service returns, and what its lent report holds at the end; and what the bench program prints. Document 01, "Refusal
-- numbers": the faults of reading in their order, then 7, then 6.
use Rattle.std.specs.Prelude.{◌≡◌, ℕ, suc, ◌≤◌, ◌<◌, List, length}
use Rattle.theory.specs.Returned.{Returned, returned}
use Rattle.theory.specs.Lists.{filled}
use Rattle.placement.specs.Core.{Table}
use Rattle.placement.specs.Choice.{Rule}
use Rattle.placement.specs.Placement.{Stopped}
use Rattle.placement.specs.Figures.{Figures, Certified}
use Rattle.records.specs.Reading.{read_table, table, refused}
use Rattle.records.specs.Report.{report_bytes, report_length}
use Rattle.listing.specs.Listing.{listing, refusal}

-- what the table service returns on table bytes and a lent report, and the report at the end
pub data TableAnswered (rule : Rule) (bytes report : List ℕ) : Returned → List ℕ → Type 0 where
  not_a_table :
      (number row : ℕ)
      → read_table bytes ≡ refused number row
      → TableAnswered rule bytes report (returned number row) report
  output_too_short :
      (t : Table)
      → read_table bytes ≡ table t
      → length report < report_length (length t.rows)
      → TableAnswered rule bytes report (returned 7 0) report
  no_core_takes_it :
      (t : Table) (i : ℕ)
      → read_table bytes ≡ table t
      → report_length (length t.rows) ≤ length report
      → Stopped rule t i
      → TableAnswered rule bytes report (returned 6 (suc i)) report
  accepted :
      (t : Table) (all : List Figures)
      → read_table bytes ≡ table t
      → report_length (length t.rows) ≤ length report
      → Certified rule t all
      → TableAnswered rule bytes report (returned 0 0) (filled (report_bytes t all) report)

-- what the bench program prints for table bytes
pub data Listed (rule : Rule) (bytes : List ℕ) : List ℕ → Type 0 where
  not_a_table :
      (number row : ℕ)
      → read_table bytes ≡ refused number row
      → Listed rule bytes (refusal number row)
  no_core_takes_it :
      (t : Table) (i : ℕ)
      → read_table bytes ≡ table t
      → Stopped rule t i
      → Listed rule bytes (refusal 6 (suc i))
  accepted :
      (t : Table) (all : List Figures)
      → read_table bytes ≡ table t
      → Certified rule t all
      → Listed rule bytes (listing all)

-- the listing's answer to table bytes and a lent byte string, and that at the end: how many bytes were written; 0, and nothing is, where they do not fit
pub data ListingAnswered (rule : Rule) (bytes listing : List ℕ) : ℕ → List ℕ → Type 0 where
  written : (lines : List ℕ) → Listed rule bytes lines → length lines ≤ length listing → ListingAnswered rule bytes listing (length lines) (filled lines listing)
  too_short : (lines : List ℕ) → Listed rule bytes lines → length listing < length lines → ListingAnswered rule bytes listing 0 listing
