-- What the entries for the front end in C promise: the number and the row that the service returns, and the lent bytes at the end.
use Rattle.std.specs.Prelude.{ℕ, List, pos}
use Rattle.theory.specs.Returned.{returned}
use Rattle.theory.specs.Row.{Row}
use Rattle.theory.specs.Allowance.{IsAllowance}
use Rattle.theory.specs.Points.{IsPointAllowance}
use Rattle.placement.specs.Choice.{allowance_fit}
use Rattle.records.specs.ListBytes.{BytesAnswered}
use Rattle.records.specs.ExplanationBytes.{BytesExplained}
use Rattle.service.specs.Table.{TableAnswered, ListingAnswered}
use Rattle.service.specs.Text.{TextAnswered, TextTabled}

-- the table entry on table bytes and a lent report: its number, its row, and the report at the end
abbrev pub TableReturned : List ℕ → List ℕ → ℕ → ℕ → List ℕ → Type 0
TableReturned table report number row report-after = TableAnswered allowance_fit table report (returned number row) report-after

-- an entry on lists as bytes: its number, its row, and both lent byte strings at the end
abbrev pub ListsReturned : (List Row → ℕ → ℕ → Type 0) → List ℕ → List ℕ → List ℕ → List ℕ → List ℕ → ℕ → ℕ → List ℕ → List ℕ → Type 0
ListsReturned Allowance cs ds ts responses allowances number row responses-after allowances-after =
    BytesAnswered Allowance cs ds ts responses allowances (returned number row) responses-after allowances-after

-- the set entry: allowances by the definition
abbrev pub SetReturned : List ℕ → List ℕ → List ℕ → List ℕ → List ℕ → ℕ → ℕ → List ℕ → List ℕ → Type 0
SetReturned = ListsReturned IsAllowance

-- the point entry: allowances by the point formula
abbrev pub PointReturned : List ℕ → List ℕ → List ℕ → List ℕ → List ℕ → ℕ → ℕ → List ℕ → List ℕ → Type 0
PointReturned = ListsReturned (λ rows i a. IsPointAllowance rows i (pos a))

-- the listing entry on table bytes and a lent byte string: how many bytes it wrote, and that byte string at the end
abbrev pub ListingReturned : List ℕ → List ℕ → ℕ → List ℕ → Type 0
ListingReturned = ListingAnswered allowance_fit

-- the explanation's entry on lists as bytes and the number of a row: its number, its row, the limiting row and the point
abbrev pub WhyReturned : List ℕ → List ℕ → List ℕ → ℕ → ℕ → ℕ → ℕ → ℕ → Type 0
WhyReturned cs ds ts asked number row limiting point = BytesExplained cs ds ts asked (returned number row) limiting point

-- the entries on a spreadsheet's text, a number of cores and lent bytes: number, row, how many bytes were written, and the lent bytes at the end; the certificate
abbrev pub TextReturned : ℕ → List ℕ → List ℕ → ℕ → ℕ → ℕ → List ℕ → Type 0
TextReturned cores text lent number row written lent-after = TextAnswered allowance_fit cores text lent (returned number row) written lent-after

-- and the table's bytes
abbrev pub TextTableReturned : ℕ → List ℕ → List ℕ → ℕ → ℕ → ℕ → List ℕ → Type 0
TextTableReturned cores text lent number row written lent-after = TextTabled cores text lent (returned number row) written lent-after
