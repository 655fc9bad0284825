-- What an accepted call says: a table and its figures, which it leaves as a report or as a text.
use mathlib.Core.Path.{◌≡◌, refl, ap}
use Prim.Native.Nat.{ℕ, ◌≤◌}
use mathlib.Core.List.{List}
use native.Mathlib.Omega.{arith}
use lib.ListN.{length}
use Rattle.theory.specs.Returned.{Returned, returned}
use Rattle.theory.specs.Lists.{filled}
use Rattle.placement.specs.Core.{Table}
use Rattle.placement.specs.Choice.{Rule}
use Rattle.placement.specs.Figures.{Figures, Certified}
use Rattle.records.specs.Reading.{read_table, table}
use Rattle.records.specs.Report.{report_bytes}
use Rattle.records.proofs.Refused.{refused_from_1_to_5}
use Rattle.texts.specs.Table.{read_text}
use Rattle.texts.specs.Columns.{certified_text}
use Rattle.texts.proofs.Reading.{text_refused}
use Rattle.service.specs.Table.{TableAnswered}
use Rattle.service.specs.Text.{TextAnswered}

-- two that are returned have one number
pub numbers_differ : {X : Type 0} {number other row other_row : ℕ} → returned number row ≡ returned other other_row → (number ≡ other → ⊥) → X
numbers_differ same differ = absurd (differ (ap (λ (r : Returned). r.number) same))

-- so a refusal is not accepted
pub not_accepted : {X : Type 0} {number row : ℕ} → 1 ≤ number → returned number row ≡ returned 0 0 → X
not_accepted some_number accepted = numbers_differ accepted (λ zero_number. omega arith)

-- the table that bytes are read as and its figures, in the report that is left
pub record ReportOf (rule : Rule) (bytes report after : List ℕ) : Type 0 where
  pub of_table : Table
  pub figures : List Figures
  pub is_table_lem : read_table bytes ≡ table of_table
  pub is_certified : Certified rule of_table figures
  pub is_report : after ≡ filled (report_bytes of_table figures) report

pub accepted_report : {rule : Rule} {bytes report : List ℕ} {returns : Returned} {after : List ℕ} → TableAnswered rule bytes report returns after → returns ≡ returned 0 0 → ReportOf rule bytes report after
accepted_report (TableAnswered.not_a_table number row refused) accepted = not_accepted (refused_from_1_to_5 _ number row refused).0 accepted
accepted_report (TableAnswered.output_too_short t reads short) accepted = not_accepted (omega arith) accepted
accepted_report (TableAnswered.no_core_takes_it t i reads long stopped) accepted = not_accepted (omega arith) accepted
accepted_report (TableAnswered.accepted t all reads long is_certified) accepted =
    record { of_table = t; figures = all; is_table_lem = reads; is_certified = is_certified; is_report = refl }

-- the table that a text is read as and its figures, in the text that is left
pub record TextOf (rule : Rule) (cores : ℕ) (text lent : List ℕ) (n : ℕ) (after : List ℕ) : Type 0 where
  pub of_table : Table
  pub figures : List Figures
  pub is_table_lem : read_text cores text ≡ table of_table
  pub is_certified : Certified rule of_table figures
  pub as_long : n ≡ length (certified_text of_table.rows figures)
  pub is_text : after ≡ filled (certified_text of_table.rows figures) lent

pub accepted_text : {rule : Rule} {cores : ℕ} {text lent : List ℕ} {returns : Returned} {n : ℕ} {after : List ℕ} → TextAnswered rule cores text lent returns n after → returns ≡ returned 0 0 → TextOf rule cores text lent n after
accepted_text {cores = cores} {text} (TextAnswered.not_a_table number row refused) accepted = not_accepted (omega (arith, (text_refused cores text number row refused).from_2)) accepted
accepted_text (TextAnswered.no_core_takes_it t i reads stopped) accepted = not_accepted (omega arith) accepted
accepted_text (TextAnswered.output_too_short t all reads certified short) accepted = not_accepted (omega arith) accepted
accepted_text (TextAnswered.accepted t all reads certified long) accepted =
    record { of_table = t; figures = all; is_table_lem = reads; is_certified = certified; as_long = refl; is_text = refl }
