-- The number that bytes are: where they are digits, and only there, and as large as it is.
use mathlib.Core.Path.{◌≡◌, refl, sym, ap, subst, ◌∙◌}
use Prim.Native.Nat.{ℕ, ◌+◌, ◌-◌, ◌*◌, ◌≤◌}
use native.Mathlib.Omega.{arith}
use mathlib.Core.Bool.{Bool, true, false}
use mathlib.Core.List.{List, [], ◌∷◌, ◌++◌, append-nil}
use mathlib.Core.Option.{none, some, IsSome, some-injective}
use lib.Dec.{leb}
use lib.ListN.{length}
use borrow.Author.Tests.{le-leb, leb-true}
use Rattle.theory.specs.Gather.{All}
use Rattle.theory.proofs.Limits.{both_pass}
use Rattle.theory.proofs.Each.{all_append_split}
use Rattle.listing.proofs.Decimal.{decimal_from, IsDigit}
use Rattle.texts.specs.Text.{quote, is_digit, number_from, number_in}
use Rattle.texts.specs.Rest.{IsNumber}

-- a digit passes the test, and nothing else does
pub digit_passes : (byte : ℕ) → IsDigit byte → is_digit byte ≡ true
digit_passes byte digit = rw (le-leb 48 byte digit.from_zero, le-leb byte 57 digit.to_nine)

pub passed_digit : (byte : ℕ) → is_digit byte ≡ true → IsDigit byte
passed_digit byte passes = let both = both_pass (leb 48 byte) (leb byte 57) passes in record { from_zero = leb-true 48 byte both.0; to_nine = leb-true byte 57 both.1 }

-- digits in front of bytes are in front of their number
digits_in_front : (n : ℕ) (digits bytes : List ℕ) → All IsDigit digits → number_from n (digits ++ bytes) ≡ number_from (decimal_from n digits) bytes
unfolding number_from decimal_from
digits_in_front n [] bytes are_digits = refl
digits_in_front n (digit ∷ digits) bytes are_digits = rw (digit_passes digit are_digits.0, number_from) (digits_in_front (n * 10 + (digit - 48)) digits bytes are_digits.1)

-- the bytes of a number are digits
pub number_of_digits : (n : ℕ) (bytes : List ℕ) → IsSome (number_from n bytes) → All IsDigit bytes
unfolding number_from
number_of_digits n [] number = tt
number_of_digits n (byte ∷ bytes) number = go (is_digit byte) refl number (number_of_digits (n * 10 + (byte - 48)) bytes)
  where
    go :
        (passes : Bool) → is_digit byte ≡ passes → IsSome {A = ℕ} (elim passes [ true ↦ number_from (n * 10 + (byte - 48)) bytes | false ↦ none ])
        → (IsSome (number_from (n * 10 + (byte - 48)) bytes) → All IsDigit bytes)
        → All IsDigit (byte ∷ bytes)
    go true passes number others = (passed_digit byte passes, others number)
    go false passes number others = absurd number

-- digits are the number that they are
digits_are : (n : ℕ) (digits : List ℕ) → All IsDigit digits → number_from n digits ≡ some (decimal_from n digits)
unfolding number_from
digits_are n digits are_digits = ap (number_from n) (sym (append-nil digits)) ∙ digits_in_front n digits [] are_digits

-- bytes behind those of a number go on with it
pub number_goes_on : (n m : ℕ) (bytes others : List ℕ) → number_from n bytes ≡ some m → number_from n (bytes ++ others) ≡ number_from m others
number_goes_on n m bytes others is_m =
    let are_digits = number_of_digits n bytes (subst IsSome (sym is_m) tt) in
    digits_in_front n bytes others are_digits ∙ ap (λ so_far. number_from so_far others) (some-injective (decimal_from n bytes) m (sym (digits_are n bytes are_digits) ∙ is_m))

-- one byte or more: the number that they go on to from 0
pub some_number : (bytes : List ℕ) → 1 ≤ length bytes → number_in bytes ≡ number_from 0 bytes
unfolding number_in
some_number [] some_byte = absurd (omega arith)
some_number (byte ∷ bytes) some_byte = refl

-- one digit or more
pub digits_number : (digits : List ℕ) → All IsDigit digits → 1 ≤ length digits → number_in digits ≡ some (decimal_from 0 digits)
digits_number digits are_digits some_digit = some_number digits some_digit ∙ digits_are 0 digits are_digits

-- the bytes of a number are digits, one or more
pub number_digits : (bytes : List ℕ) → IsNumber bytes → All IsDigit bytes × (1 ≤ length bytes)
unfolding number_in
number_digits [] number = absurd number
number_digits (byte ∷ bytes) number = (number_of_digits 0 (byte ∷ bytes) number, omega arith)

-- bytes with one among them that is no digit are none
pub no_number : (front : List ℕ) (byte : ℕ) (behind : List ℕ) → (IsDigit byte → ⊥) → IsNumber (front ++ (byte ∷ behind)) → ⊥
no_number front byte behind no_digit number = no_digit (all_append_split IsDigit front (byte ∷ behind) (number_digits (front ++ (byte ∷ behind)) number).0).1.0

pub quote_in_no_number : (front behind : List ℕ) → IsNumber (front ++ (quote ∷ behind)) → ⊥
quote_in_no_number front behind = no_number front quote behind (λ digit. omega (arith, digit.from_zero))
