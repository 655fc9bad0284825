-- Lines and fields, read from the front: what a byte does to the rest of its field, of its line and of the text.
use mathlib.Core.Path.{◌≡◌, refl, sym, ap, ◌∙◌}
use Prim.Native.Nat.{ℕ}
use native.Mathlib.Omega.{arith}
use mathlib.Core.Bool.{Bool, true, false, ◌&&◌, true≢false}
use mathlib.Core.List.{List, [], ◌∷◌, ◌++◌, nil≢cons, cons≢nil}
use lib.Dec.{eqb}
use lib.ListN.{get_or}
use borrow.Author.Tests.{eqb-true, eqb-false, ne_eqb}
use Rattle.theory.specs.Gather.{All}
use Rattle.theory.proofs.Each.{all_map}
use Rattle.texts.specs.Text.{LF, CR, quote, comma, begins_with, in_front, lines_of, fields_of}
use Rattle.texts.specs.Rest.{first_part, other_parts, rest_of_line, lines_behind, rest_of_field, fields_behind, Plain}

-- a byte that is a field's own: no line end and no comma
pub record Ordinary (byte : ℕ) : Type 0 where
  pub no_LF : byte ≡ LF → ⊥
  pub no_CR : byte ≡ CR → ⊥
  pub no_comma : byte ≡ comma → ⊥

-- plain bytes are
pub plain_ordinary : (bytes : List ℕ) → All Plain bytes → All Ordinary bytes
plain_ordinary bytes = all_map bytes (λ byte plain. record { no_LF = λ same. omega arith; no_CR = λ same. omega arith; no_comma = λ same. omega arith })

-- so is a quote
pub quote_ordinary : Ordinary quote
quote_ordinary = record { no_LF = λ same. omega arith; no_CR = λ same. omega arith; no_comma = λ same. omega arith }

-- a byte in front of the first part leaves the others
pub first_in_front : (byte : ℕ) (parts : List (List ℕ)) → first_part (in_front byte parts) ≡ byte ∷ first_part parts
unfolding in_front
first_in_front byte [] = refl
first_in_front byte (part ∷ parts) = refl

pub others_in_front : (byte : ℕ) (parts : List (List ℕ)) → other_parts (in_front byte parts) ≡ other_parts parts
unfolding in_front
others_in_front byte [] = refl
others_in_front byte (part ∷ parts) = refl

-- there is a first part
abbrev SomeFirst : List (List ℕ) → Type 0
SomeFirst parts = parts ≡ first_part parts ∷ other_parts parts

some_in_front : (byte : ℕ) (parts : List (List ℕ)) → SomeFirst (in_front byte parts)
unfolding in_front
some_in_front byte [] = refl
some_in_front byte (part ∷ parts) = refl

-- a byte that ends no line stays in its line
pub stays_in_line : (byte : ℕ) (text : List ℕ) → (byte ≡ LF → ⊥) → (byte ≡ CR → begins_with LF text ≡ false) → lines_of (byte ∷ text) ≡ in_front byte (lines_of text)
unfolding lines_of
stays_in_line byte text no_LF no_end = rw (ne_eqb byte LF no_LF, lines_of) (go (eqb byte CR) refl)
  where
    go : (is-CR : Bool) → eqb byte CR ≡ is-CR → elim (is-CR && begins_with LF text) [ true ↦ lines_of text | false ↦ in_front byte (lines_of text) ] ≡ in_front byte (lines_of text)
    go true is-CR = rw (no_end (eqb-true byte CR is-CR))
    go false is-CR = refl

-- a text that is not empty has a line
pub some_line : (byte : ℕ) (text : List ℕ) → lines_of (byte ∷ text) ≡ rest_of_line (byte ∷ text) ∷ lines_behind (byte ∷ text)
unfolding lines_of
some_line byte [] = go (eqb byte LF) (eqb byte CR)
  where
    go : (is-LF is-CR : Bool) → SomeFirst (elim is-LF [ true ↦ [] ∷ [] | false ↦ elim (is-CR && false) [ true ↦ [] | false ↦ in_front byte [] ] ])
    go true is-CR = refl
    go false true = some_in_front byte []
    go false false = some_in_front byte []
some_line byte (next ∷ text) = go (eqb byte LF) (eqb byte CR && eqb next LF) (some_line next text)
  where
    go :
        (is-LF ends : Bool) → SomeFirst (lines_of (next ∷ text))
        → SomeFirst (elim is-LF [ true ↦ [] ∷ lines_of (next ∷ text) | false ↦ elim ends [ true ↦ lines_of (next ∷ text) | false ↦ in_front byte (lines_of (next ∷ text)) ] ])
    go true ends others = refl
    go false true others = others
    go false false others = some_in_front byte (lines_of (next ∷ text))

-- a line has a field
pub some_field : (line : List ℕ) → fields_of line ≡ first_part (fields_of line) ∷ other_parts (fields_of line)
unfolding fields_of
some_field [] = refl
some_field (byte ∷ line) = go (eqb byte comma)
  where
    go : (is-comma : Bool) → SomeFirst (elim is-comma [ true ↦ [] ∷ fields_of line | false ↦ in_front byte (fields_of line) ])
    go true = refl
    go false = some_in_front byte (fields_of line)

-- a byte that is no comma stays in its field
pub stays_in_field : (byte : ℕ) (line : List ℕ) → (byte ≡ comma → ⊥) → fields_of (byte ∷ line) ≡ in_front byte (fields_of line)
unfolding fields_of
stays_in_field byte line no_comma = rw (ne_eqb byte comma no_comma, fields_of)

module _ (byte : ℕ) (text : List ℕ) (no_LF : byte ≡ LF → ⊥) (no_end : byte ≡ CR → begins_with LF text ≡ false) where
  -- a byte that ends no line: the rest of the line from it on
  pub line_goes_on : rest_of_line (byte ∷ text) ≡ byte ∷ rest_of_line text
  line_goes_on = ap first_part (stays_in_line byte text no_LF no_end) ∙ first_in_front byte (lines_of text)

  pub lines_stay_behind : lines_behind (byte ∷ text) ≡ lines_behind text
  lines_stay_behind = ap other_parts (stays_in_line byte text no_LF no_end) ∙ others_in_front byte (lines_of text)

  -- and no field
  pub field_goes_on : (byte ≡ comma → ⊥) → rest_of_field (byte ∷ text) ≡ byte ∷ rest_of_field text
  field_goes_on no_comma =
      ap (λ line. first_part (fields_of line)) line_goes_on ∙ ap first_part (stays_in_field byte (rest_of_line text) no_comma) ∙ first_in_front byte (fields_of (rest_of_line text))

  pub fields_stay_behind : (byte ≡ comma → ⊥) → fields_behind (byte ∷ text) ≡ fields_behind text
  fields_stay_behind no_comma =
      ap (λ line. other_parts (fields_of line)) line_goes_on ∙ ap other_parts (stays_in_field byte (rest_of_line text) no_comma) ∙ others_in_front byte (fields_of (rest_of_line text))

-- what stands at the front of a text: the end of a line, or one more byte of it
pub data Next (text : List ℕ) : Type 0 where
  line_ends : rest_of_line text ≡ [] → Next text
  line_goes : (byte : ℕ) (others : List ℕ) → text ≡ byte ∷ others → (byte ≡ LF → ⊥) → (byte ≡ CR → begins_with LF others ≡ false) → Next text

-- an LF ends the line
LF_ends_line : (text : List ℕ) → begins_with LF text ≡ true → rest_of_line text ≡ []
unfolding lines_of
LF_ends_line [] begins = absurd (true≢false (sym begins))
LF_ends_line (byte ∷ text) begins = rw (begins, lines_of)

-- a CR before it belongs to the line's end
CR_before_LF : (text : List ℕ) → begins_with LF text ≡ true → lines_of (CR ∷ text) ≡ lines_of text
unfolding lines_of
CR_before_LF text begins = rw (begins, lines_of)

pub next_of : (text : List ℕ) → Next text
unfolding lines_of
next_of [] = line_ends refl
next_of (byte ∷ text) = go (eqb byte LF) refl (begins_with LF text) refl
  where
    go : (is-LF : Bool) → eqb byte LF ≡ is-LF → (before-LF : Bool) → begins_with LF text ≡ before-LF → Next (byte ∷ text)
    go true is-LF before-LF same = line_ends (rw (is-LF, lines_of))
    go false is-LF false same = line_goes byte text refl (eqb-false byte LF is-LF) (λ is-CR. same)
    go false is-LF true same = ended (eqb byte CR) refl
      where
        ended : (ends : Bool) → eqb byte CR ≡ ends → Next (byte ∷ text)
        ended true ends = line_ends (ap (λ x. rest_of_line (x ∷ text)) (eqb-true byte CR ends) ∙ ap first_part (CR_before_LF text same) ∙ LF_ends_line text same)
        ended false ends = line_goes byte text refl (eqb-false byte LF is-LF) (λ is-CR. absurd (eqb-false byte CR ends is-CR))

-- a comma ends its field, and the fields behind it are those of the rest of the line
pub comma_ends_field : (text : List ℕ) → rest_of_field (comma ∷ text) ≡ []
unfolding fields_of
comma_ends_field text = ap (λ line. first_part (fields_of line)) (line_goes_on comma text (λ same. omega arith) (λ same. absurd (omega arith)))

pub fields_behind_comma : (text : List ℕ) → fields_behind (comma ∷ text) ≡ fields_of (rest_of_line text)
unfolding fields_of
fields_behind_comma text = ap (λ line. other_parts (fields_of line)) (line_goes_on comma text (λ same. omega arith) (λ same. absurd (omega arith)))

-- a byte of a line, by whether it is a comma
byte_of_line :
    (P : Type 0) (byte : ℕ) (text : List ℕ) → (byte ≡ LF → ⊥) → (byte ≡ CR → begins_with LF text ≡ false)
    → (byte ≡ comma → P) → ((byte ≡ comma → ⊥) → rest_of_field (byte ∷ text) ≡ byte ∷ rest_of_field text → P)
    → P
byte_of_line P byte text no_LF no_end is-comma is-other = go (eqb byte comma) refl
  where
    go : (same : Bool) → eqb byte comma ≡ same → P
    go true same = is-comma (eqb-true byte comma same)
    go false same = let other = eqb-false byte comma same in is-other other (field_goes_on byte text no_LF no_end other)

-- the rest of a field begins with the byte at the front
pub first_of_field : (text : List ℕ) (byte : ℕ) (others : List ℕ) → rest_of_field text ≡ byte ∷ others → (more : List ℕ) × (text ≡ byte ∷ more)
unfolding fields_of
first_of_field text byte others begins = go (next_of text)
  where
    go : Next text → (more : List ℕ) × (text ≡ byte ∷ more)
    go (line_ends ended) = absurd (nil≢cons (sym (ap (λ line. first_part (fields_of line)) ended) ∙ begins))
    go (line_goes first more is_text no_LF no_end) =
        let rest = sym (ap rest_of_field is_text) ∙ begins in
        byte_of_line ((more : List ℕ) × (text ≡ byte ∷ more)) first more no_LF no_end
        (λ is-comma. absurd (nil≢cons (sym (comma_ends_field more) ∙ ap (λ x. rest_of_field (x ∷ more)) (sym is-comma) ∙ rest)))
        (λ other goes_on. (more, is_text ∙ ap (λ x. x ∷ more) (ap (λ field. get_or field 0 0) (sym goes_on ∙ rest))))

-- where a field has ended and no comma stands, there are no more fields
pub no_comma_no_fields : (text : List ℕ) → begins_with comma text ≡ false → rest_of_field text ≡ [] → fields_behind text ≡ []
unfolding fields_of
no_comma_no_fields text no_comma field_ended = go (next_of text)
  where
    go : Next text → fields_behind text ≡ []
    go (line_ends ended) = ap (λ line. other_parts (fields_of line)) ended
    go (line_goes first more is_text no_LF no_end) =
        byte_of_line (fields_behind text ≡ []) first more no_LF no_end
        (λ is-comma. absurd (eqb-false first comma (ap (begins_with comma) (sym is_text) ∙ no_comma) is-comma))
        (λ other goes_on. absurd (nil≢cons (sym field_ended ∙ ap rest_of_field is_text ∙ goes_on)))

-- where the line goes on, the field has not ended or there are more
pub line_not_ended : (byte : ℕ) (text : List ℕ) → (byte ≡ LF → ⊥) → (byte ≡ CR → begins_with LF text ≡ false) → rest_of_field (byte ∷ text) ≡ [] → fields_behind (byte ∷ text) ≡ [] → ⊥
line_not_ended byte text no_LF no_end ended none =
    byte_of_line ⊥ byte text no_LF no_end
    (λ is-comma. cons≢nil (sym (some_field (rest_of_line text)) ∙ sym (fields_behind_comma text) ∙ ap (λ x. fields_behind (x ∷ text)) (sym is-comma) ∙ none))
    (λ other goes_on. nil≢cons (sym ended ∙ goes_on))

-- bytes that are a field's own, in front of a text: they are in front of the rest of its field, and nothing behind that changes
pub record InField (bytes text : List ℕ) : Type 0 where
  pub in_line : rest_of_line (bytes ++ text) ≡ bytes ++ rest_of_line text
  pub same_lines : lines_behind (bytes ++ text) ≡ lines_behind text
  pub in_field : rest_of_field (bytes ++ text) ≡ bytes ++ rest_of_field text
  pub same_fields : fields_behind (bytes ++ text) ≡ fields_behind text

pub ordinary_in_field : (bytes text : List ℕ) → All Ordinary bytes → InField bytes text
ordinary_in_field [] text ordinary = record { in_line = refl; same_lines = refl; in_field = refl; same_fields = refl }
ordinary_in_field (byte ∷ bytes) text ordinary =
    let no_LF = ordinary.0.no_LF in
    let no_end : byte ≡ CR → begins_with LF (bytes ++ text) ≡ false = λ is-CR. absurd (ordinary.0.no_CR is-CR) in
    let others = ordinary_in_field bytes text ordinary.1 in
    record {
      in_line = line_goes_on byte (bytes ++ text) no_LF no_end ∙ ap (λ rest. byte ∷ rest) others.in_line;
      same_lines = lines_stay_behind byte (bytes ++ text) no_LF no_end ∙ others.same_lines;
      in_field = field_goes_on byte (bytes ++ text) no_LF no_end ordinary.0.no_comma ∙ ap (λ rest. byte ∷ rest) others.in_field;
      same_fields = fields_stay_behind byte (bytes ++ text) no_LF no_end ordinary.0.no_comma ∙ others.same_fields;
    }

-- a line's end in front of a text: nothing of the line is left, and its lines are the lines behind
pub record LineEnds (text behind : List ℕ) : Type 0 where
  pub field_ends : rest_of_field text ≡ []
  pub no_fields : fields_behind text ≡ []
  pub lines_follow : lines_behind text ≡ lines_of behind

pub text_ends : LineEnds [] []
unfolding lines_of fields_of
text_ends = record { field_ends = refl; no_fields = refl; lines_follow = refl }

pub LF_ends : (text : List ℕ) → LineEnds (LF ∷ text) text
unfolding lines_of fields_of
LF_ends text = record { field_ends = refl; no_fields = refl; lines_follow = refl }

pub CR_LF_ends : (text : List ℕ) → LineEnds (CR ∷ (LF ∷ text)) text
unfolding lines_of fields_of
CR_LF_ends text = record { field_ends = refl; no_fields = refl; lines_follow = refl }
