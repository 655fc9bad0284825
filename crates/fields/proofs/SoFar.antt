-- Digits, found one by one: how they begin, go on and stop.
use mathlib.Core.Path.{◌≡◌, refl, sym, ap, ◌∙◌}
use Prim.Native.Nat.{ℕ, ◌+◌, ◌-◌, ◌*◌, ◌<◌, ◌≤◌}
use native.Mathlib.Omega.{arith}
use mathlib.Core.Bool.{true, false}
use mathlib.Core.List.{List, [], ◌∷◌, ◌++◌, append_assoc, nil≢cons}
use lib.ListN.{length, get_or, take, drop, length-drop, drop_of_length-le}
use lib.Seq.{take_all}
use Rattle.std.proofs.lemmas.List.{drop_more}
use Rattle.texts.specs.Text.{is_digit, number_from}
use Rattle.texts.proofs.Numbers.{number_goes_on}
use Rattle.fields.specs.Found.{capped, DigitsTo}

-- the rest of a text, as a slice from a place to the end
pub rest_is : (text : List ℕ) (many : ℕ) → take (length text - many) (drop many text) ≡ drop many text
rest_is text many = take_all (length text - many) (drop many text) (omega (arith, length-drop many text))

-- no digits yet
pub digits_begin : (text : List ℕ) → DigitsTo text 0 text
unfolding number_from
digits_begin text = record { bytes = []; value = 0; splits = refl; is_number = refl; as_held = refl }

-- a digit behind a number that is held is held as behind the number itself
capped_digit : (value digit : ℕ) → capped (capped value * 10 + digit) ≡ capped (value * 10 + digit)
capped_digit value digit = omega arith

module _ {text : List ℕ} {number many : ℕ} (so_far : DigitsTo text number (drop many text)) (left : many < length text) where
  abbrev byte : ℕ
  byte = get_or text many 0

  -- one more
  pub digits_go_on : is_digit byte ≡ true → (next : ℕ) → next ≡ capped (number * 10 + (byte - 48)) → DigitsTo text next (drop (many + 1) text)
  unfolding number_from
  digits_go_on passes next held =
      record {
        bytes = so_far.bytes ++ (byte ∷ []);
        value = so_far.value * 10 + (byte - 48);
        splits = so_far.splits ∙ ap (λ rest. so_far.bytes ++ rest) (drop_more text many 0 left) ∙ sym (append_assoc so_far.bytes (byte ∷ []) (drop (many + 1) text));
        is_number = number_goes_on 0 so_far.value so_far.bytes (byte ∷ []) so_far.is_number ∙ rw (passes, number_from);
        as_held = held ∙ ap (λ (n : ℕ). capped (n * 10 + (byte - 48))) so_far.as_held ∙ capped_digit so_far.value (byte - 48);
      }

-- where the byte at a place is no digit, they stop
pub digits_stop : (text : List ℕ) (end : ℕ) → end < length text → is_digit (get_or text end 0) ≡ false → (byte : ℕ) (others : List ℕ) → drop end text ≡ byte ∷ others → is_digit byte ≡ false
digits_stop text end inside none first others begins = ap (λ rest. is_digit (get_or rest 0 0)) (sym begins ∙ drop_more text end 0 inside) ∙ none

-- at the end of the text none is next
pub text_stops : (text : List ℕ) (end : ℕ) → length text ≤ end → (byte : ℕ) (others : List ℕ) → drop end text ≡ byte ∷ others → is_digit byte ≡ false
text_stops text end past first others begins = absurd (nil≢cons (sym (drop_of_length-le text past) ∙ begins))
