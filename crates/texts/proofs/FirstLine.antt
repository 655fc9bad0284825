-- Refusal 9 names the first line that is not of the grammar.
use mathlib.Core.Path.{◌≡◌, refl, sym, subst, ◌∙◌}
use Prim.Native.Nat.{ℕ, zero, suc, ◌+◌, ◌-◌, ◌≤◌, ◌<◌}
use native.Mathlib.Omega.{arith}
use mathlib.Core.Bool.{Bool, true, false, true≢false}
use mathlib.Core.List.{List, [], ◌∷◌}
use mathlib.Core.Option.{Option, none, some, none-ne-some}
use lib.ListN.{get_or}
use Rattle.theory.specs.Row.{Row}
use Rattle.texts.specs.Text.{Text, lines_of, fields_of, row_in, names, hold, of_rows, not_of_the_form, with_row, rows_from, headed, text_of}
use Rattle.texts.specs.Forms.{RowLine, OfTheForm, FirstNotOfTheForm}
use Rattle.texts.proofs.ThreeFields.{held_names}
use Rattle.texts.proofs.Forms.{header_read, row_read}
use Rattle.texts.proofs.ReadForms.{row_line, header_line_lem, no_form_no_rows}

-- of lines behind the header, the first of which has a number: the one that is no row
record FirstNoRow (number : ℕ) (lines : List (List ℕ)) (found : ℕ) : Type 0 where
  from : number ≤ found
  rows_before : (place : ℕ) → number + place < found → (row : Row) × RowLine row (get_or lines place [])
  no_row : (row : Row) → RowLine row (get_or lines (found - number) []) → ⊥

-- a line that is no row is the first
no_row_here : (number : ℕ) (line : List ℕ) (lines : List (List ℕ)) → row_in (fields_of line) ≡ none → FirstNoRow number (line ∷ lines) number
no_row_here number line lines is_none =
    let here : number - number ≡ 0 = omega arith in
    record {
      from = omega arith;
      rows_before = λ place before. absurd (omega arith);
      no_row = λ row is-line. none-ne-some row (sym is_none ∙ (row_read (rw here at is-line)).right);
    }

-- a row, and the first behind it
no_row_behind : (number found : ℕ) (line : List ℕ) (lines : List (List ℕ)) (row : Row) → row_in (fields_of line) ≡ some row → FirstNoRow (suc number) lines found → FirstNoRow number (line ∷ lines) found
no_row_behind number found line lines row is_row behind =
    let further : found - number ≡ suc (found - suc number) = omega (arith, behind.from) in
    record { from = omega (arith, behind.from); rows_before = before; no_row = λ other is-line. behind.no_row other (rw further at is-line) }
  where
    before : (place : ℕ) → number + place < found → (row : Row) × RowLine row (get_or (line ∷ lines) place [])
    before zero earlier = (row, row_line line row is_row)
    before (suc place) earlier = behind.rows_before place (omega arith)

first_no_row : (lines : List (List ℕ)) (number found : ℕ) → rows_from number lines ≡ not_of_the_form found → FirstNoRow number lines found
unfolding rows_from with_row
first_no_row [] number found broken = absurd (no_form_no_rows (sym broken))
first_no_row (line ∷ lines) number found broken = go (row_in (fields_of line)) refl (rows_from (suc number) lines) refl broken (first_no_row lines (suc number))
  where
    go : (read : Option Row) → row_in (fields_of line) ≡ read → (further : Text) → rows_from (suc number) lines ≡ further
        → elim read [ some row ↦ with_row row further | none ↦ not_of_the_form number ] ≡ not_of_the_form found
        → ((later : ℕ) → rows_from (suc number) lines ≡ not_of_the_form later → FirstNoRow (suc number) lines later)
        → FirstNoRow number (line ∷ lines) found
    go none is_none further are-further is-broken first_behind = let same : number ≡ found = cc in subst (FirstNoRow number (line ∷ lines)) same (no_row_here number line lines is_none)
    go (some row) is_row (of_rows others) are-further is-broken first_behind = absurd (no_form_no_rows (sym is-broken))
    go (some row) is_row (not_of_the_form later) are-further is-broken first_behind =
        let same : later ≡ found = cc in subst (FirstNoRow number (line ∷ lines)) same (no_row_behind number later line lines row is_row (first_behind later are-further))

-- lines by their numbers
abbrev FirstNot : List (List ℕ) → ℕ → Type 0
FirstNot lines number =
    ((place : ℕ) → suc place < number → OfTheForm (suc place) (get_or lines place []))
    × (OfTheForm number (get_or lines (number - 1) []) → ⊥)

header_and_rows : (line : List ℕ) (lines : List (List ℕ)) → hold (fields_of line) names ≡ true → (number : ℕ) → FirstNoRow 2 lines number → FirstNot (line ∷ lines) number
unfolding names
header_and_rows line lines is-header zero behind = absurd (omega (arith, behind.from))
header_and_rows line lines is-header (suc zero) behind = absurd (omega (arith, behind.from))
header_and_rows line lines is-header (suc (suc place)) behind =
    let behind-header : suc (suc place) - 1 ≡ suc (suc (suc place) - 2) = omega arith in (before, λ is-line. behind.no_row is-line.0 (rw behind-header at is-line.1))
  where
    before : (earlier : ℕ) → suc earlier < suc (suc place) → OfTheForm (suc earlier) (get_or (line ∷ lines) earlier [])
    before zero first = header_line_lem line refl (held_names (fields_of line) names is-header)
    before (suc earlier) later = behind.rows_before earlier (omega arith)

first_not : (lines : List (List ℕ)) (number : ℕ) → headed lines ≡ not_of_the_form number → FirstNot lines number
unfolding headed
first_not [] number broken =
    let same : 1 ≡ number = cc in subst (FirstNot []) same (λ place before. absurd (omega arith), λ is-line. omega (arith, (header_read is-line).not_empty))
first_not (line ∷ lines) number broken = go (hold (fields_of line) names) refl broken
  where
    go : (holds : Bool) → hold (fields_of line) names ≡ holds → elim holds [ true ↦ rows_from 2 lines | false ↦ not_of_the_form 1 ] ≡ not_of_the_form number → FirstNot (line ∷ lines) number
    go true is-header is-broken = header_and_rows line lines is-header number (first_no_row lines 2 number is-broken)
    go false no_header is-broken =
        let same : 1 ≡ number = cc in
        subst (FirstNot (line ∷ lines)) same (λ place before. absurd (omega arith), λ is-line. true≢false (sym (header_read is-line).right ∙ no_header))

-- THE LINE THAT A TEXT IS REFUSED WITH IS THE FIRST THAT IS NOT OF THE FORM
pub refused_line_is_first : (text : List ℕ) (number : ℕ) → text_of text ≡ not_of_the_form number → FirstNotOfTheForm text number
unfolding text_of
refused_line_is_first text number broken = let first = first_not (lines_of text) number broken in record { earlier_are = first.0; it_is_not = first.1 }
