-- What is read as a number is that number's digits behind leading zeros.
use mathlib.Core.Path.{◌≡◌, refl, sym, ap, subst, ◌∙◌}
use Prim.Native.Nat.{ℕ, suc, ◌+◌, ◌-◌, ◌*◌, ◌/◌, ◌%◌, ◌≤◌}
use native.Mathlib.Omega.{arith}
use mathlib.Core.Bool.{Bool, true, false}
use mathlib.Core.List.{List, [], ◌∷◌, ◌++◌, append-nil}
use mathlib.Core.Option.{some, IsSome, some-injective, none-ne-some}
use lib.Dec.{eqb}
use lib.ListN.{replicate}
use lib.Seq.{append_snoc}
use borrow.Author.Tests.{eqb-true, eqb-false}
use Rattle.theory.specs.Gather.{All}
use Rattle.listing.specs.Listing.{decimal}
use Rattle.listing.proofs.Decimal.{decimal_from, IsDigit, decimal_one_digit, decimal_more_digits}
use Rattle.texts.specs.Text.{number_in}
use Rattle.texts.specs.Forms.{digit_zero}
use Rattle.texts.proofs.Numbers.{digits_number, number_digits}

-- a digit behind the digits of a number above 0
digit_behind : (n digit : ℕ) → 1 ≤ n → IsDigit digit → decimal n ++ (digit ∷ []) ≡ decimal (n * 10 + (digit - 48))
digit_behind n digit positive digit_is =
    let tens : (n * 10 + (digit - 48)) / 10 ≡ n = omega (arith, digit_is.to_nine) in
    let last : 48 + (n * 10 + (digit - 48)) % 10 ≡ digit = omega (arith, digit_is.from_zero, digit_is.to_nine) in
    rw (decimal_more_digits (n * 10 + (digit - 48)) (omega arith), tens, last)

-- digits behind those of a number above 0 are the digits of a number
digits_behind : (n : ℕ) (bytes : List ℕ) → 1 ≤ n → All IsDigit bytes → decimal n ++ bytes ≡ decimal (decimal_from n bytes)
unfolding decimal_from
digits_behind n [] positive are_digits = append-nil (decimal n)
digits_behind n (byte ∷ bytes) positive are_digits =
    sym (append_snoc (decimal n) byte bytes) ∙ ap (λ (front : List ℕ). front ++ bytes) (digit_behind n byte positive are_digits.0)
    ∙ digits_behind (n * 10 + (byte - 48)) bytes (omega arith) are_digits.1

-- the digits of a number behind zeros
pub record BehindZeros (bytes : List ℕ) (n : ℕ) : Type 0 where
  pub zeros : ℕ
  pub are_bytes : bytes ≡ replicate zeros digit_zero ++ decimal n

-- digits, the first of them not 0
no_zeros : (byte : ℕ) (bytes : List ℕ) → (byte ≡ digit_zero → ⊥) → All IsDigit (byte ∷ bytes) → byte ∷ bytes ≡ decimal (decimal_from 0 (byte ∷ bytes))
unfolding decimal_from
no_zeros byte bytes not-zero are_digits =
    let first : 48 + (byte - 48) ≡ byte = omega (arith, are_digits.0.from_zero) in
    let so_far : 0 * 10 + (byte - 48) ≡ byte - 48 = omega arith in
    rw so_far
    (sym (ap (λ (digit : ℕ). digit ∷ bytes) first) ∙ sym (ap (λ (front : List ℕ). front ++ bytes) (decimal_one_digit (byte - 48) (omega (arith, are_digits.0.to_nine))))
    ∙ digits_behind (byte - 48) bytes (omega (arith, are_digits.0.from_zero)) are_digits.1)

-- a zero in front of digits
zero_in_front : (byte : ℕ) (bytes : List ℕ) → byte ≡ digit_zero → BehindZeros bytes (decimal_from 0 bytes) → BehindZeros (byte ∷ bytes) (decimal_from 0 (byte ∷ bytes))
unfolding decimal_from
zero_in_front byte bytes is_zero further = rw is_zero (record { zeros = suc further.zeros; are_bytes = ap (λ (others : List ℕ). digit_zero ∷ others) further.are_bytes })

-- DIGITS ARE THOSE OF THEIR NUMBER BEHIND ZEROS
behind_zeros : (byte : ℕ) (bytes : List ℕ) → All IsDigit (byte ∷ bytes) → BehindZeros (byte ∷ bytes) (decimal_from 0 (byte ∷ bytes))
unfolding decimal_from
behind_zeros byte [] are_digits =
    let first : 48 + (0 * 10 + (byte - 48)) ≡ byte = omega (arith, are_digits.0.from_zero) in
    record { zeros = 0; are_bytes = sym (decimal_one_digit (0 * 10 + (byte - 48)) (omega (arith, are_digits.0.to_nine)) ∙ ap (λ (digit : ℕ). digit ∷ []) first) }
behind_zeros byte (next ∷ bytes) are_digits = go (eqb byte digit_zero) refl (behind_zeros next bytes are_digits.1)
  where
    go : (is_zero : Bool) → eqb byte digit_zero ≡ is_zero → BehindZeros (next ∷ bytes) (decimal_from 0 (next ∷ bytes)) → BehindZeros (byte ∷ (next ∷ bytes)) (decimal_from 0 (byte ∷ (next ∷ bytes)))
    go true is_zero further = zero_in_front byte (next ∷ bytes) (eqb-true byte digit_zero is_zero) further
    go false is_zero further = record { zeros = 0; are_bytes = no_zeros byte (next ∷ bytes) (eqb-false byte digit_zero is_zero) are_digits }

-- so is what is read as a number
pub number_form : (bytes : List ℕ) (n : ℕ) → number_in bytes ≡ some n → BehindZeros bytes n
unfolding number_in
number_form [] n is-n = absurd (none-ne-some n is-n)
number_form (byte ∷ bytes) n is-n =
    let digits = number_digits (byte ∷ bytes) (subst IsSome (sym is-n) tt) in
    subst (BehindZeros (byte ∷ bytes)) (some-injective _ n (sym (digits_number (byte ∷ bytes) digits.0 digits.1) ∙ is-n)) (behind_zeros byte bytes digits.0)
