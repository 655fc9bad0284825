-- A text is its first line, what ends it, and the text of the others; a line is its fields with commas between them.
use mathlib.Core.Path.{◌≡◌, refl, sym, ap, subst, ◌∙◌}
use Prim.Native.Nat.{ℕ}
use mathlib.Core.Bool.{Bool, true, false, ◌&&◌, true≢false}
use mathlib.Core.List.{List, [], ◌∷◌, ◌++◌}
use lib.Dec.{eqb}
use borrow.Author.Tests.{eqb-true}
use Rattle.theory.proofs.Limits.{both_pass}
use Rattle.texts.specs.Text.{LF, CR, comma, begins_with, in_front, lines_of, fields_of}
use Rattle.texts.specs.Forms.{joined, LF_alone, CR_LF, Behind, line_end, end_of_text}
use Rattle.texts.proofs.Lines.{some_field}

-- a text whose lines are a first and others: the first, what stands behind it, and the text of the others
pub record FirstLine (text line : List ℕ) (lines : List (List ℕ)) : Type 0 where
  pub rest : List ℕ
  pub others : List ℕ
  pub is_text : text ≡ line ++ rest
  pub behind : Behind others rest
  pub lines_of_others : lines_of others ≡ lines

-- what a text is by its lines
abbrev Parted : List ℕ → List (List ℕ) → Type 0
Parted text [] = text ≡ []
Parted text (line ∷ lines) = FirstLine text line lines

-- a byte that is LF
LF_parted : (byte : ℕ) (text : List ℕ) → byte ≡ LF → FirstLine (byte ∷ text) [] (lines_of text)
LF_parted byte text is-LF =
    record { rest = byte ∷ text; others = text; is_text = refl; behind = subst (λ (b : ℕ). Behind text (b ∷ text)) (sym is-LF) (line_end text LF_alone); lines_of_others = refl }

-- a CR in front of one
CR_LF_parted : (byte : ℕ) (text : List ℕ) → byte ≡ CR → begins_with LF text ≡ true → Parted (byte ∷ text) (lines_of text)
unfolding lines_of
CR_LF_parted byte [] is-CR begins = absurd (true≢false (sym begins))
CR_LF_parted byte (first ∷ text) is-CR begins =
    rw (is-CR, eqb-true first LF begins) (record { rest = CR ∷ (LF ∷ text); others = text; is_text = refl; behind = line_end text CR_LF; lines_of_others = refl })

-- a byte of a line
in_front_parted : (byte : ℕ) (text : List ℕ) (lines : List (List ℕ)) → Parted text lines → Parted (byte ∷ text) (in_front byte lines)
unfolding in_front lines_of
in_front_parted byte text [] empty = record { rest = []; others = []; is_text = ap (λ bytes. byte ∷ bytes) empty; behind = end_of_text; lines_of_others = refl }
in_front_parted byte text (line ∷ lines) parted = record {
  rest = parted.rest;
  others = parted.others;
  is_text = ap (λ bytes. byte ∷ bytes) parted.is_text;
  behind = parted.behind;
  lines_of_others = parted.lines_of_others;
}

text_parted : (text : List ℕ) → Parted text (lines_of text)
unfolding lines_of
text_parted [] = refl
text_parted (byte ∷ text) = go (eqb byte LF) (eqb byte CR && begins_with LF text) refl refl (text_parted text)
  where
    go : (is-LF ends : Bool) → eqb byte LF ≡ is-LF → eqb byte CR && begins_with LF text ≡ ends → Parted text (lines_of text)
        → Parted (byte ∷ text) (elim is-LF [ true ↦ [] ∷ lines_of text | false ↦ elim ends [ true ↦ lines_of text | false ↦ in_front byte (lines_of text) ] ])
    go true ends is-LF is-end further = LF_parted byte text (eqb-true byte LF is-LF)
    go false true is-LF is-end further =
        let both = both_pass (eqb byte CR) (begins_with LF text) is-end in
        CR_LF_parted byte text (eqb-true byte CR both.0) both.1
    go false false is-LF is-end further = in_front_parted byte text (lines_of text) further

-- A TEXT WITH A FIRST LINE
pub first_line : (text line : List ℕ) (lines : List (List ℕ)) → lines_of text ≡ line ∷ lines → FirstLine text line lines
first_line text line lines parted = subst (Parted text) parted (text_parted text)

-- A TEXT WITH NONE
pub no_lines : (text : List ℕ) → lines_of text ≡ [] → text ≡ []
no_lines text parted = subst (Parted text) parted (text_parted text)

-- a byte in front of the first field
joined_in_front : (byte : ℕ) (fields : List (List ℕ)) → joined (in_front byte fields) ≡ byte ∷ joined fields
unfolding in_front joined
joined_in_front byte [] = refl
joined_in_front byte (field ∷ []) = refl
joined_in_front byte (field ∷ (next ∷ fields)) = refl

-- A LINE IS ITS FIELDS WITH COMMAS BETWEEN THEM
pub fields_joined : (line : List ℕ) → joined (fields_of line) ≡ line
unfolding fields_of joined
fields_joined [] = refl
fields_joined (byte ∷ line) = go (eqb byte comma) refl (fields_joined line)
  where
    go : (is-comma : Bool) → eqb byte comma ≡ is-comma → joined (fields_of line) ≡ line → joined (elim is-comma [ true ↦ [] ∷ fields_of line | false ↦ in_front byte (fields_of line) ]) ≡ byte ∷ line
    go true is-comma further = ap (λ fields. joined ([] ∷ fields)) (some_field line) ∙ ap (λ bytes. comma ∷ bytes) (ap joined (sym (some_field line)) ∙ further) ∙ ap (λ first. first ∷ line) (sym (eqb-true byte comma is-comma))
    go false is-comma further = joined_in_front byte (fields_of line) ∙ ap (λ bytes. byte ∷ bytes) further
