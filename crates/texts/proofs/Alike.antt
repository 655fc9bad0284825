-- A text is what its fields hold: where two texts have as many lines, these as many fields, and each two hold the same bytes or the same number, they are the same.
use mathlib.Core.Path.{◌≡◌, refl, sym, ap, ◌∙◌}
use Prim.Native.Nat.{ℕ, suc}
use mathlib.Core.Bool.{Bool, true, false}
use mathlib.Core.List.{List, [], ◌∷◌}
use mathlib.Core.Option.{Option, none, some, none-ne-some}
use Rattle.theory.specs.Row.{Row}
use Rattle.listing.specs.Listing.{ascii}
use Rattle.texts.specs.Text.{Text, fields_of, held, number_from, number_in, row_in, names, same_bytes, hold, with_row, rows_from, headed, not_of_the_form}
use Rattle.texts.proofs.ThreeFields.{bytes_same, Pairwise, no_parts, two}

-- each is related to itself
pub each_alike : (R : List ℕ → List ℕ → Type 0) → ((a : List ℕ) → R a a) → (parts : List (List ℕ)) → Pairwise R parts parts
each_alike R alike [] = no_parts
each_alike R alike (part ∷ parts) = two (alike part) (each_alike R alike parts)

-- two fields that hold the same bytes or the same number
pub data Alike (field other : List ℕ) : Type 0 where
  same_content : held field ≡ held other → Alike field other
  same_number : (n : ℕ) → number_in (held field) ≡ some n → number_in (held other) ≡ some n → Alike field other

-- two lines of such fields
abbrev pub AlikeLines : List ℕ → List ℕ → Type 0
AlikeLines line other = Pairwise Alike (fields_of line) (fields_of other)

pub alike_itself : (field : List ℕ) → Alike field field
alike_itself field = same_content refl

pub line_alike_itself : (line : List ℕ) → AlikeLines line line
line_alike_itself line = each_alike Alike alike_itself (fields_of line)

-- they are the same number, or both none
alike_number : {field other : List ℕ} → Alike field other → number_in (held field) ≡ number_in (held other)
alike_number (same_content same) = ap number_in same
alike_number (same_number n is-n other-is) = is-n ∙ sym other-is

-- so they make the same row
alike_row : {fields others : List (List ℕ)} → Pairwise Alike fields others → row_in fields ≡ row_in others
unfolding row_in
alike_row no_parts = refl
alike_row (two c no_parts) = refl
alike_row (two c (two d no_parts)) = refl
alike_row (two c (two d (two t no_parts))) = rw (alike_number c, alike_number d, alike_number t)
alike_row (two c (two d (two t (two more others)))) = refl

-- names that are no numbers
abbrev NoNumbers : List (List ℕ) → Type 0
NoNumbers [] = Unit {0}
NoNumbers (name ∷ names) = (number_in name ≡ none) × NoNumbers names

names_no_numbers : NoNumbers names
unfolding names ascii number_in number_from
names_no_numbers = (refl, (refl, (refl, tt)))

-- a number is not a name that is none
number_no_name : (content name : List ℕ) (n : ℕ) → number_in content ≡ some n → number_in name ≡ none → same_bytes content name ≡ false
number_no_name content name n is-n no_number = go (same_bytes content name) refl
  where
    go : (same : Bool) → same_bytes content name ≡ same → same ≡ false
    go true same = absurd (none-ne-some n (sym no_number ∙ ap number_in (sym (bytes_same content name same)) ∙ is-n))
    go false same = refl

-- so they hold the same of such names
alike_name : {field other : List ℕ} (name : List ℕ) → number_in name ≡ none → Alike field other → same_bytes (held field) name ≡ same_bytes (held other) name
alike_name name no_number (same_content same) = ap (λ content. same_bytes content name) same
alike_name {field} {other} name no_number (same_number n is-n other-is) = number_no_name (held field) name n is-n no_number ∙ sym (number_no_name (held other) name n other-is no_number)

alike_hold : {fields others : List (List ℕ)} (some-names : List (List ℕ)) → NoNumbers some-names → Pairwise Alike fields others → hold fields some-names ≡ hold others some-names
unfolding hold
alike_hold [] no-numbers no_parts = refl
alike_hold [] no-numbers (two first further) = refl
alike_hold (name ∷ some-names) no-numbers no_parts = refl
alike_hold (name ∷ some-names) no-numbers (two first further) = rw (alike_name name no-numbers.0 first, alike_hold some-names no-numbers.1 further)

-- lines of alike fields are the same rows
alike_rows : {lines others : List (List ℕ)} (number : ℕ) → Pairwise AlikeLines lines others → rows_from number lines ≡ rows_from number others
unfolding rows_from
alike_rows number no_parts = refl
alike_rows number (two {b = other} {parts = lines} first further) =
    ap (λ (row : Option Row). elim row [ some r ↦ with_row r (rows_from (suc number) lines) | none ↦ not_of_the_form number ]) (alike_row first)
    ∙ ap (λ (rest : Text). elim (row_in (fields_of other)) [ some r ↦ with_row r rest | none ↦ not_of_the_form number ]) (alike_rows (suc number) further)

-- AND THE SAME TEXT
pub alike_headed : {lines others : List (List ℕ)} → Pairwise AlikeLines lines others → headed lines ≡ headed others
unfolding headed
alike_headed no_parts = refl
alike_headed (two {b = other} {parts = lines} first further) =
    ap (λ (is-header : Bool). elim is-header [ true ↦ rows_from 2 lines | false ↦ not_of_the_form 1 ]) (alike_hold names names_no_numbers first)
    ∙ ap (λ (rest : Text). elim (hold (fields_of other) names) [ true ↦ rest | false ↦ not_of_the_form 1 ]) (alike_rows 2 further)
