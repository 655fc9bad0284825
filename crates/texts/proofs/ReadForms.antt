-- EVERY TEXT THAT IS READ IS OF THE GRAMMAR: a text is rows only where it is written as them.
use mathlib.Core.Path.{◌≡◌, refl, sym, ap, subst, ◌∙◌}
use Prim.Native.Nat.{ℕ, suc, ◌-◌}
use native.Mathlib.Omega.{arith}
use mathlib.Core.Bool.{Bool, true, false, ◌&&◌}
use mathlib.Core.Logic.{◌↔◌}
use mathlib.Core.List.{List, [], ◌∷◌, ◌++◌}
use mathlib.Core.Option.{Option, none, some}
use lib.Dec.{eqb}
use lib.ListN.{length, get_or, take}
use lib.Seq.{take-suc, take_all}
use borrow.Author.Tests.{eqb-true}
use Rattle.theory.specs.Row.{Row}
use Rattle.theory.proofs.Limits.{both_pass}
use Rattle.listing.specs.Listing.{ascii}
use Rattle.texts.specs.Text.{Text, quote, lines_of, fields_of, held, number_in, row_in, names, hold, of_rows, not_of_the_form, with_row, rows_from, headed, text_of}
use Rattle.texts.specs.Forms.{FieldOf, plain, quoted, NumberField, digits, joined, HeaderLine, header, RowLine, numbers, RowLines, no_rows, with_this_row, Written, written}
use Rattle.texts.proofs.Forms.{written_read}
use Rattle.texts.proofs.ThreeFields.{row_numbers, Pairwise, no_parts, two, Holds, held_names}
use Rattle.texts.proofs.Parted.{FirstLine, first_line, no_lines, fields_joined}
use Rattle.texts.proofs.Zeros.{number_form}

-- ---- fields

-- bytes that end in a quote are some
some_byte : (field : List ℕ) → get_or field (length field - 1) 0 ≡ quote → length field ≡ suc (length field - 1)
some_byte [] closes = absurd (omega arith)
some_byte (first ∷ field) closes = omega arith

-- a field that begins and ends with a quote
between_quotes : (byte last : ℕ) (field : List ℕ) → length field ≡ suc last → byte ≡ quote → get_or field last 0 ≡ quote → FieldOf (take last field) (byte ∷ field)
between_quotes byte last field is_last opens closes =
    let whole : take last field ++ (quote ∷ []) ≡ field = sym (rw closes at (take-suc field last 0 (omega arith))) ∙ take_all (suc last) field (omega arith) in
    subst (FieldOf (take last field)) (ap (λ (x : ℕ). x ∷ (take last field ++ (quote ∷ []))) (sym opens) ∙ ap (λ (others : List ℕ). byte ∷ others) whole) quoted

-- a field is one that holds what it holds: plain or quoted
held_form : (field : List ℕ) → FieldOf (held field) field
unfolding held
held_form [] = plain
held_form (byte ∷ field) = go (eqb byte quote && eqb (get_or field (length field - 1) 0) quote) refl
  where
    go : (in-quotes : Bool) → eqb byte quote && eqb (get_or field (length field - 1) 0) quote ≡ in-quotes
        → FieldOf (elim in-quotes [ true ↦ take (length field - 1) field | false ↦ byte ∷ field ]) (byte ∷ field)
    go true is =
        let both = both_pass (eqb byte quote) (eqb (get_or field (length field - 1) 0) quote) is in
        let closes = eqb-true (get_or field (length field - 1) 0) quote both.1 in
        between_quotes byte (length field - 1) field (some_byte field closes) (eqb-true byte quote both.0) closes
    go false is = plain

-- so it is a field of what it holds
field_of : {field content : List ℕ} → held field ≡ content → FieldOf content field
field_of {field} holds = subst (λ (content : List ℕ). FieldOf content field) holds (held_form field)

-- a field that holds a number
number_field : (field : List ℕ) (n : ℕ) → number_in (held field) ≡ some n → NumberField n field
number_field field n is-n = let behind = number_form (held field) n is-n in digits behind.zeros (field_of behind.are_bytes)

-- ---- lines

-- a line whose fields are a row
pub row_line : (line : List ℕ) (row : Row) → row_in (fields_of line) ≡ some row → RowLine row line
row_line line row is_row =
    let own = row_numbers (fields_of line) row is_row in
    subst (RowLine row) (sym (ap joined own.three) ∙ fields_joined line)
    (numbers (number_field own.first row.C own.is_c) (number_field own.second row.D own.is_d) (number_field own.third row.T own.is_t))

-- a line whose fields hold the header's
pub header_line_lem : {fields : List (List ℕ)} (line : List ℕ) → fields_of line ≡ fields → Pairwise Holds fields (ascii "wcet" ∷ (ascii "deadline" ∷ (ascii "period" ∷ []))) → HeaderLine line
header_line_lem line same (two w (two d (two p no_parts))) = subst HeaderLine (sym (ap joined same) ∙ fields_joined line) (header (field_of w) (field_of d) (field_of p))

-- ---- the text

pub no_form_no_rows : {line : ℕ} {rows : List Row} → not_of_the_form line ≡ of_rows rows → ⊥
no_form_no_rows same = let z : ◌≡◌ {A = ℕ} 0 1 = cc in omega arith

-- lines that are rows
row_lines_lem : (lines : List (List ℕ)) (number : ℕ) (rows : List Row) (text : List ℕ) → lines_of text ≡ lines → rows_from number lines ≡ of_rows rows → RowLines rows text
unfolding rows_from with_row
row_lines_lem [] number rows text parted are_rows =
    let none_left : [] ≡ rows = cc in
    subst (λ (some_rows : List Row). RowLines some_rows text) none_left (subst (RowLines []) (sym (no_lines text parted)) no_rows)
row_lines_lem (line ∷ lines) number rows text parted are_rows =
    go (row_in (fields_of line)) refl (rows_from (suc number) lines) refl are_rows (row_lines_lem lines (suc number))
  where
    first : FirstLine text line lines
    first = first_line text line lines parted

    go : (read : Option Row) → row_in (fields_of line) ≡ read → (further : Text) → rows_from (suc number) lines ≡ further
        → elim read [ some row ↦ with_row row further | none ↦ not_of_the_form number ] ≡ of_rows rows
        → ((others : List Row) (behind : List ℕ) → lines_of behind ≡ lines → rows_from (suc number) lines ≡ of_rows others → RowLines others behind)
        → RowLines rows text
    go none is_none further are-further is-rows written_behind = absurd (no_form_no_rows is-rows)
    go (some row) is_row (not_of_the_form bad) are-further is-rows written_behind = absurd (no_form_no_rows is-rows)
    go (some row) is_row (of_rows others) are-further is-rows written_behind =
        let all_rows : row ∷ others ≡ rows = cc in
        let lines-written = with_this_row (row_line line row is_row) first.behind (written_behind others first.others first.lines_of_others are-further) in
        subst (λ (some_rows : List Row). RowLines some_rows text) all_rows (subst (RowLines (row ∷ others)) (sym first.is_text) lines-written)

-- lines that are a header and rows
headed_written : (lines : List (List ℕ)) (rows : List Row) (text : List ℕ) → lines_of text ≡ lines → headed lines ≡ of_rows rows → Written rows text
unfolding headed names
headed_written [] rows text parted are_rows = absurd (no_form_no_rows are_rows)
headed_written (line ∷ lines) rows text parted are_rows = go (hold (fields_of line) names) refl are_rows
  where
    first : FirstLine text line lines
    first = first_line text line lines parted

    go : (is-header : Bool) → hold (fields_of line) names ≡ is-header → elim is-header [ true ↦ rows_from 2 lines | false ↦ not_of_the_form 1 ] ≡ of_rows rows → Written rows text
    go true holds is-rows =
        subst (Written rows) (sym first.is_text)
        (written (header_line_lem line refl (held_names (fields_of line) names holds)) first.behind (row_lines_lem lines 2 rows first.others first.lines_of_others is-rows))
    go false holds is-rows = absurd (no_form_no_rows is-rows)

-- THE FORM, the other way round
pub read_written : (rows : List Row) (text : List ℕ) → text_of text ≡ of_rows rows → Written rows text
unfolding text_of
read_written rows text is-rows = headed_written (lines_of text) rows text refl is-rows

-- A TEXT IS ROWS EXACTLY WHERE IT IS WRITTEN AS THEM
pub read_exactly_written : (rows : List Row) (text : List ℕ) → (text_of text ≡ of_rows rows) ↔ Written rows text
read_exactly_written rows text = (read_written rows text, written_read)
