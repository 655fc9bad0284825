-- What stands behind a field: a comma, a line's end, or neither.
use mathlib.Core.Path.{◌≡◌, refl, ap, ◌∙◌}
use Prim.Native.Nat.{ℕ, ◌+◌, ◌<◌}
use native.Mathlib.Omega.{arith}
use mathlib.Core.Bool.{Bool, true, false}
use mathlib.Core.List.{List, [], ◌∷◌}
use denote.Ref.{Bor}
use lib.Dec.{eqb}
use lib.ListN.{length, get_or, drop}
use borrow.Author.Tests.{eqb-true}
use Rattle.std.specs.Prelude.{Option, Some, None, MatchOption, option_copied}
use Rattle.texts.specs.Text.{LF, CR, comma, begins_with}
use Rattle.texts.specs.Rest.{lines_behind, rest_of_field, fields_behind}
use Rattle.texts.proofs.Lines.{lines_stay_behind, comma_ends_field, fields_behind_comma, no_comma_no_fields, line_not_ended, LineEnds, text_ends, LF_ends, CR_LF_ends}
use Rattle.fields.specs.Found.{comma_behind, line_end_behind, Between, IsBetween}
use Rattle.fields.proofs.Begins.{one_byte, stands_there}

-- a text that does not go on behind a byte does not begin with it
not_begun : (byte : ℕ) (text : List ℕ) → ((rest : List ℕ) → text ≡ byte ∷ rest → ⊥) → begins_with byte text ≡ false
not_begun byte [] none = refl
not_begun byte (first ∷ others) none = go (eqb first byte) refl
  where
    go : (same : Bool) → eqb first byte ≡ same → same ≡ false
    go true same = absurd (none others (ap (λ b. b ∷ others) (eqb-true first byte same)))
    go false same = refl

-- a comma
pub comma_found : (text : List ℕ) (found : Option (Bor (List ℕ))) → MatchOption found ((rest : List ℕ) → text ≡ comma ∷ rest → ⊥) (λ rest. text ≡ comma ∷ rest.now) → IsBetween comma_behind text (option_copied found)
comma_found text None none = λ ended follow. follow (no_comma_no_fields text (not_begun comma text none) ended)
comma_found text (Some rest) there =
    record {
      field_ends = ap rest_of_field there ∙ comma_ends_field rest.now;
      fields_follow = ap fields_behind there ∙ fields_behind_comma rest.now;
      lines_follow = ap lines_behind there ∙ lines_stay_behind comma rest.now (λ same. omega arith) (λ same. absurd (omega arith));
      left_behind = record { front = comma ∷ []; splits = there; at_least = omega arith };
    }

-- the end of the text
pub text_end : (text : List ℕ) → length text ≡ 0 → Between line_end_behind text text
text_end [] none = record { field_ends = text_ends.field_ends; fields_follow = text_ends.no_fields; lines_follow = text_ends.lines_follow; left_behind = record { front = []; splits = refl; at_least = omega arith } }
text_end (byte ∷ text) none = absurd (omega arith)

-- LF
pub LF_found : (text rest : List ℕ) → text ≡ LF ∷ rest → Between line_end_behind text rest
LF_found text rest there =
    let ends : LineEnds text rest = rw there (LF_ends rest) in
    record {
      field_ends = ends.field_ends;
      fields_follow = ends.no_fields;
      lines_follow = ends.lines_follow;
      left_behind = record { front = LF ∷ []; splits = there; at_least = omega arith };
    }

-- CR LF, or another byte
pub CR_LF_found :
    (text : List ℕ) (found : Option (Bor (List ℕ))) → (length text ≡ 0 → ⊥) → ((rest : List ℕ) → text ≡ LF ∷ rest → ⊥)
    → MatchOption found ((rest : List ℕ) → text ≡ CR ∷ LF ∷ rest → ⊥) (λ rest. text ≡ CR ∷ LF ∷ rest.now)
    → IsBetween line_end_behind text (option_copied found)
CR_LF_found text (Some rest) some_byte no_LF there =
    let ends : LineEnds text rest.now = rw there (CR_LF_ends rest.now) in
    record {
      field_ends = ends.field_ends;
      fields_follow = ends.no_fields;
      lines_follow = ends.lines_follow;
      left_behind = record { front = CR ∷ LF ∷ []; splits = there; at_least = omega arith };
    }
CR_LF_found [] None some_byte no_LF no_CR_LF = absurd (some_byte refl)
CR_LF_found (byte ∷ others) None some_byte no_LF no_CR_LF =
    line_not_ended byte others (λ is_LF. no_LF others (ap (λ b. b ∷ others) is_LF))
    (λ is_CR. not_begun LF others (λ rest same. no_CR_LF rest (ap (λ b. b ∷ others) is_CR ∙ ap (λ next. CR ∷ next) same)))

-- a line's end at a place of a text
module _ (text : List ℕ) (at : ℕ) where
  pub LF_end : at < length text → get_or text at 0 ≡ LF → LineEnds (drop at text) (drop (at + 1) text)
  LF_end inside is_LF = rw (one_byte text at inside, is_LF) (LF_ends (drop (at + 1) text))

  module _ (inside : at < length text) where
    pub CR_LF_end : get_or text at 0 ≡ CR → begins_with LF (drop (at + 1) text) ≡ true → LineEnds (drop at text) (drop (at + 2) text)
    CR_LF_end is_CR begins =
        let there = stands_there text (at + 1) LF begins in
        let next : at + 1 + 1 ≡ at + 2 = omega arith in
        rw (one_byte text at inside, is_CR, there.1, next) (CR_LF_ends (drop (at + 2) text))
