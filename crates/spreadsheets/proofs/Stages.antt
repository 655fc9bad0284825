-- What the services on a text answer once it is read as a table: no core takes a row, the sheet is too long or is put into the lent bytes, and the table's bytes.
use mathlib.Core.Path.{◌≡◌, sym, ap, subst, ◌∙◌}
use Prim.Native.Nat.{ℕ, ◌+◌, ◌*◌, ◌≤◌, ◌<◌}
use mathlib.Core.List.{List, ◌++◌}
use native.Mathlib.Omega.{arith}
use lib.ListN.{length, drop}
use Rattle.std.specs.Prelude.{Ok, Err}
use Rattle.answers.specs.declared.Refusal.{Refusal}
use Rattle.answers.specs.Answer.{refused_with}
use Rattle.theory.specs.Returned.{returned}
use Rattle.theory.specs.Lists.{filled}
use Rattle.placement.specs.Choice.{allowance_fit}
use Rattle.placement.specs.Figures.{Figures, Certified}
use Rattle.records.specs.Report.{table_bytes}
use Rattle.records.proofs.Lengths.{table_bytes_length}
use Rattle.texts.specs.Table.{read_text}
use Rattle.texts.specs.Columns.{certified_text}
use Rattle.reading.specs.declared.table.Table.{Table}
use Rattle.reading.specs.Read.{held_table, IsRead}
use Rattle.rows.proofs.Fronts.{many_at_fronts}
use Rattle.certificates.specs.Held.{IsHeld}
use Rattle.service.specs.Text.{TextAnswered, TextTabled}

module _ (cores : ℕ) (text lent : List ℕ) (table : Table) (read : IsRead (read_text cores text) (Ok table)) where
  -- no core takes a row
  pub refusal_answered : {refusal : Refusal} → IsHeld (held_table table) (Err refusal) → TextAnswered allowance_fit cores text lent (refused_with refusal) 0 lent
  refusal_answered (i, is, stop) = rw is (TextAnswered.no_core_takes_it (held_table table) i read stop)

  -- the text of the table and its figures is too long, or is put
  module _ {all : List Figures} (certified : Certified allowance_fit (held_table table) all) (sheet : List ℕ) (is_sheet : sheet ≡ certified_text (held_table table).rows all) (n : ℕ) (as_long : n ≡ length sheet) where
    pub sheet_too_long : length lent < n → TextAnswered allowance_fit cores text lent (returned 7 0) 0 lent
    sheet_too_long short = TextAnswered.output_too_short (held_table table) all read certified (omega (arith, ap length is_sheet))

    pub sheet_put : n ≤ length lent → (after : List ℕ) → after ≡ sheet ++ drop n lent → TextAnswered allowance_fit cores text lent (returned 0 0) n after
    sheet_put fits after put = rw (put, as_long, is_sheet) (TextAnswered.accepted (held_table table) all read certified (omega (arith, ap length is_sheet)))

  -- the table's bytes, 4 and 13 for each row
  bytes_long : length (table_bytes (held_table table)) ≡ 4 + 13 * table.held.n
  bytes_long = table_bytes_length (held_table table) ∙ ap (λ (n : ℕ). 4 + 13 * n) (many_at_fronts table.held)

  pub table_too_long : length lent < 4 + 13 * table.held.n → TextTabled cores text lent (returned 7 0) 0 lent
  table_too_long short = TextTabled.output_too_short (held_table table) read (omega (arith, bytes_long))

  pub table_put : (after : List ℕ) → 4 + 13 * table.held.n ≤ length lent → after ≡ filled (table_bytes (held_table table)) lent → TextTabled cores text lent (returned 0 0) (4 + 13 * table.held.n) after
  table_put after fits put =
      subst (λ (bytes : List ℕ). TextTabled cores text lent (returned 0 0) (4 + 13 * table.held.n) bytes) (sym put)
      (subst (λ (k : ℕ). TextTabled cores text lent (returned 0 0) k (filled (table_bytes (held_table table)) lent)) bytes_long
      (TextTabled.accepted (held_table table) read (omega (arith, bytes_long))))
