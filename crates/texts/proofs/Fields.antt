-- What a field of a form holds, and that its bytes are a field's own.
use mathlib.Core.Path.{◌≡◌, ap, ◌∙◌}
use Prim.Native.Nat.{ℕ, ◌≤◌}
use native.Mathlib.Omega.{arith}
use mathlib.Core.Bool.{false}
use mathlib.Core.List.{List, [], ◌∷◌, ◌++◌}
use mathlib.Core.Option.{some}
use lib.ListN.{length, replicate, length-append}
use Rattle.theory.specs.Gather.{All}
use Rattle.theory.proofs.Each.{all_map, all_append}
use Rattle.listing.specs.Listing.{decimal}
use Rattle.listing.proofs.Decimal.{IsDigit}
use Rattle.texts.specs.Text.{quote, begins_with, held, number_in}
use Rattle.texts.specs.Rest.{Plain}
use Rattle.texts.specs.Forms.{digit_zero, FieldOf, plain, quoted, NumberField, digits}
use Rattle.texts.proofs.Lines.{Ordinary, plain_ordinary, quote_ordinary}
use Rattle.texts.proofs.Held.{held_plain, held_quoted, plain_begins}
use Rattle.texts.proofs.Digits.{decimal_digits, zeros_digits, decimal_read}

-- a field holds what it is of, where that does not begin with a quote
pub field_holds : {content field : List ℕ} → begins_with quote content ≡ false → FieldOf content field → held field ≡ content
field_holds {content} no_quote plain = held_plain content no_quote
field_holds {content} no_quote quoted = held_quoted content

-- the bytes of a field are a field's own where its content's are
pub field_ordinary : {content field : List ℕ} → All Ordinary content → FieldOf content field → All Ordinary field
field_ordinary own plain = own
field_ordinary {content} own quoted = (quote_ordinary, all_append Ordinary content (quote ∷ []) own (quote_ordinary, tt))

-- a field is not shorter than its content
pub field_longer : {content field : List ℕ} → FieldOf content field → length content ≤ length field
field_longer plain = omega arith
field_longer {content} quoted = omega (arith, length-append content (quote ∷ []))

-- digits are plain
pub digits_plain : (bytes : List ℕ) → All IsDigit bytes → All Plain bytes
digits_plain bytes = all_map bytes (λ byte digit. omega (arith, digit.from_zero))

-- so are the digits of a number behind zeros
number_plain : (zeros n : ℕ) → All Plain (replicate zeros digit_zero ++ decimal n)
number_plain zeros n = digits_plain (replicate zeros digit_zero ++ decimal n) (zeros_digits zeros (decimal n) (decimal_digits n))

-- THE FIELD OF A NUMBER HOLDS IT
pub number_field_read : {n : ℕ} {field : List ℕ} → NumberField n field → number_in (held field) ≡ some n
number_field_read {n} (digits zeros form) = ap number_in (field_holds (plain_begins (replicate zeros digit_zero ++ decimal n) (number_plain zeros n)) form) ∙ decimal_read zeros n

pub number_field_ordinary : {n : ℕ} {field : List ℕ} → NumberField n field → All Ordinary field
number_field_ordinary {n} (digits zeros form) = field_ordinary (plain_ordinary (replicate zeros digit_zero ++ decimal n) (number_plain zeros n)) form
