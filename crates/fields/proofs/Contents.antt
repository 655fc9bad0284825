-- A field by its content: where it ends, and that it holds what is right exactly if it ends there. Once, for numbers and for names.
use mathlib.Core.Path.{◌≡◌, refl, sym, ap, subst, ◌∙◌}
use Prim.Native.Nat.{ℕ, ◌≤◌}
use native.Mathlib.Omega.{arith}
use mathlib.Core.Bool.{Bool, true, false, true≢false}
use mathlib.Core.List.{List, [], ◌∷◌, ◌++◌, append-nil, append_assoc}
use lib.ListN.{length, drop, length-append}
use Rattle.std.specs.Prelude.{Some, None}
use Rattle.theory.specs.Gather.{All}
use Rattle.texts.specs.Text.{quote, begins_with, held}
use Rattle.texts.specs.Rest.{lines_behind, rest_of_field, fields_behind, Plain}
use Rattle.texts.proofs.Lines.{Ordinary, plain_ordinary, quote_ordinary, InField, ordinary_in_field, first_of_field}
use Rattle.texts.proofs.Held.{held_plain, held_quoted, plain_begins, plain_right, quoted_right}
use Rattle.fields.specs.Found.{opening, IsFieldEnd, EndsAt, Wrong}

-- by whether a quote opens a field
abbrev opening_by : Bool → List ℕ
opening_by begins = elim begins [ true ↦ quote ∷ [] | false ↦ [] ]

-- what opens a field is its own
opening_ordinary : (begins : Bool) → All Ordinary (opening_by begins)
opening_ordinary true = (quote_ordinary, tt)
opening_ordinary false = tt

-- a field that no quote opens does not begin with one
no_quote_in_front : (text : List ℕ) → begins_with quote text ≡ false → begins_with quote (rest_of_field text) ≡ false
no_quote_in_front text none = go (rest_of_field text) refl
  where
    go : (field : List ℕ) → rest_of_field text ≡ field → begins_with quote field ≡ false
    go [] same = refl
    go (byte ∷ others) same = ap (begins_with quote) (sym (first_of_field text byte others same).1) ∙ none

-- content between its quotes, or plain, is what a field holds
held_content : (begins : Bool) (bytes : List ℕ) → All Plain bytes → held (opening_by begins ++ (bytes ++ opening_by begins)) ≡ bytes
held_content true bytes plain = held_quoted bytes
held_content false bytes plain = ap held (append-nil bytes) ∙ held_plain bytes (plain_begins bytes plain)

-- what follows the quotes
behind_opening : (begins : Bool) (rest : List ℕ) → opening_by begins ++ rest ≡ opening_by begins → rest ≡ []
behind_opening true rest same = ap (drop 1) same
behind_opening false rest same = same

-- a text by what opens its first field, its content, and what is left behind that
module _ (Right : List ℕ → Type 0) (no_quote : (front behind : List ℕ) → Right (front ++ (quote ∷ behind)) → ⊥)
    (text bytes end : List ℕ) (plain : All Plain bytes) (whole : text ≡ opening text ++ (bytes ++ end))
    (not_longer : (byte : ℕ) (others more : List ℕ) → end ≡ byte ∷ others → Right (bytes ++ (byte ∷ more)) → ⊥) where
  content_in_field : InField (opening text) (bytes ++ end)
  content_in_field = ordinary_in_field (opening text) (bytes ++ end) (opening_ordinary (begins_with quote text))

  bytes_in_field : InField bytes end
  bytes_in_field = ordinary_in_field bytes end (plain_ordinary bytes plain)

  field_is : rest_of_field text ≡ opening text ++ (bytes ++ rest_of_field end)
  field_is = ap rest_of_field whole ∙ content_in_field.in_field ∙ ap (λ behind. opening text ++ behind) bytes_in_field.in_field

  -- what is right ends with what opened it, and is the content
  right_content : Right (held (rest_of_field text)) → (rest_of_field end ≡ opening text) × Right bytes
  right_content right = go (begins_with quote text) refl (subst (λ field. Right (held field)) field_is right)
    where
      stops : (byte : ℕ) (others more : List ℕ) → rest_of_field end ≡ byte ∷ others → Right (bytes ++ (byte ∷ more)) → ⊥
      stops byte others more begins = let first = first_of_field end byte others begins in not_longer byte first.0 more first.1

      go : (begins : Bool) → begins_with quote text ≡ begins → Right (held (opening_by begins ++ (bytes ++ rest_of_field end))) → (rest_of_field end ≡ opening_by begins) × Right bytes
      go true begins = quoted_right Right no_quote bytes plain (rest_of_field end) stops
      go false begins =
          plain_right Right no_quote bytes plain (rest_of_field end) stops
          (ap (begins_with quote) (sym (field_is ∙ ap (λ (opens : Bool). opening_by opens ++ (bytes ++ rest_of_field end)) begins)) ∙ no_quote_in_front text begins)

  -- wrong content, or no closing quote: a wrong field
  pub wrong_content : (Right bytes → ⊥) → Wrong Right text
  wrong_content wrong right = wrong (right_content right).1

  pub not_closed : IsFieldEnd text end None → Wrong Right text
  not_closed place right =
      let closes = (right_content right).0 ∙ ap opening_by place.0 in
      let first = first_of_field end quote [] closes in
      true≢false (sym (ap (begins_with quote) first.1) ∙ place.1)

  -- right content up to what is left behind the field
  module _ (rest : List ℕ) (place : IsFieldEnd text end (Some rest)) where
    closing_in_field : InField (opening text) rest
    closing_in_field = ordinary_in_field (opening text) rest (opening_ordinary (begins_with quote text))

    pub held_there : rest_of_field rest ≡ [] → held (rest_of_field text) ≡ bytes
    held_there ended =
        ap held
        (field_is ∙ ap (λ behind. opening text ++ (bytes ++ behind)) (ap rest_of_field place ∙ closing_in_field.in_field ∙ ap (λ behind. opening text ++ behind) ended ∙ append-nil (opening text)))
        ∙ held_content (begins_with quote text) bytes plain

    pub right_field : Right bytes → 1 ≤ length bytes → EndsAt Right text rest
    right_field right some_bytes =
        record {
          same_lines = ap lines_behind whole ∙ content_in_field.same_lines ∙ bytes_in_field.same_lines ∙ ap lines_behind place ∙ closing_in_field.same_lines;
          same_fields = ap fields_behind whole ∙ content_in_field.same_fields ∙ bytes_in_field.same_fields ∙ ap fields_behind place ∙ closing_in_field.same_fields;
          right_there = λ ended. subst Right (sym (held_there ended)) right;
          only_there = λ is_right. behind_opening (begins_with quote text) (rest_of_field rest) (sym (ap rest_of_field place ∙ closing_in_field.in_field) ∙ (right_content is_right).0);
          left_behind = record {
            front = opening text ++ (bytes ++ opening text);
            splits =
                whole
                ∙ ap (λ behind. opening text ++ (bytes ++ behind)) place
                ∙ ap (λ behind. opening text ++ behind) (sym (append_assoc bytes (opening text) rest))
                ∙ sym (append_assoc (opening text) (bytes ++ opening text) rest);
            at_least = omega (arith, length-append (opening text) (bytes ++ opening text), length-append bytes (opening text));
          };
        }
