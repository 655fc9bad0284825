-- Decimal numbers as the listing prints them: digits with no leading zero, from which the number reads back.
use mathlib.Core.Path.{◌≡◌, refl, sym, ap, ◌∙◌}
use Prim.Native.Nat.{ℕ, zero, suc, ◌+◌, ◌-◌, ◌*◌, ◌/◌, ◌%◌, ◌^◌, ◌≤◌, ◌<◌}
use native.Mathlib.Nat.{le_of_suc-le-suc}
use mathlib.Core.Bool.{Bool, true, false}
use mathlib.Core.List.{List, [], ◌∷◌, ◌++◌}
use native.Mathlib.Omega.{arith}
use lib.Dec.{ltb}
use lib.ListN.{length, get_or}
use borrow.Author.Tests.{ltb-true, ltb-false, lt-ltb, le-ltb}
use Rattle.std.specs.Fmt.{decimal as of_library}
use Rattle.std.proofs.lemmas.Fmt.{decimal_by_steps}
use Rattle.listing.specs.Listing.{digits_before, decimal}

-- the number that decimal digits are, after those that made `so_far`
unfoldable pub decimal_from : ℕ → List ℕ → ℕ
decimal_from so_far [] = so_far
decimal_from so_far (digit ∷ digits) = decimal_from (so_far * 10 + (digit - 48)) digits

-- a byte that is a digit
pub record IsDigit (byte : ℕ) : Type 0 where
  pub from_zero : 48 ≤ byte
  pub to_nine : byte ≤ 57

-- bytes that are all digits
abbrev pub AllDigits : List ℕ → Type 0
AllDigits bytes = (k : ℕ) → k < length bytes → IsDigit (get_or bytes k 0)

-- digits of n that stand before others
record DigitsOf (n : ℕ) (behind digits : List ℕ) : Type 0 where
  some_digit : 1 ≤ length digits
  no_leading_zero : get_or digits 0 0 ≡ 48 → n ≡ 0
  value : decimal_from 0 digits ≡ decimal_from n behind
  are_digits : AllDigits behind → AllDigits digits

-- a digit before digits
digit_before : (digit : ℕ) (behind : List ℕ) → digit < 10 → AllDigits behind → AllDigits ((48 + digit) ∷ behind)
digit_before digit behind small digits zero inside = omega arith
digit_before digit behind small digits (suc k) inside = digits k (le_of_suc-le-suc inside)

-- the digits of the tens before the last digit
tens_before : (n tens digit : ℕ) (behind digits : List ℕ) → 0 < tens → digit < 10 → tens * 10 + digit ≡ n → DigitsOf tens ((48 + digit) ∷ behind) digits → DigitsOf n behind digits
unfolding decimal_from
tens_before n tens digit behind digits some small sum before =
    record {
      some_digit = before.some_digit;
      no_leading_zero = λ first. omega (arith, before.no_leading_zero first);
      value = before.value ∙ ap (λ so_far. decimal_from so_far behind) (omega arith);
      are_digits = λ behind-digits. before.are_digits (digit_before digit behind small behind-digits);
    }

-- with steps enough, the digits of n come before those that follow
digits_of : (steps n : ℕ) (behind : List ℕ) → n < steps → DigitsOf n behind (digits_before steps n behind)
unfolding digits_before decimal_from
digits_of zero n behind enough = absurd (omega arith)
digits_of (suc steps) n behind enough = go (ltb n 10) refl (digits_of steps)
  where
    go :
        (one-digit : Bool) → ltb n 10 ≡ one-digit
        → ((m : ℕ) (after : List ℕ) → m < steps → DigitsOf m after (digits_before steps m after))
        → DigitsOf n behind (digits_before (suc steps) n behind)
    go true one-digit before =
        let small = ltb-true n 10 one-digit in
        rw (one-digit, digits_before)
        (record {
          some_digit = omega arith;
          no_leading_zero = omega arith;
          value = ap (λ so_far. decimal_from so_far behind) (omega arith);
          are_digits = digit_before n behind small;
        })
    go false more-digits before =
        let large = ltb-false n 10 more-digits in
        rw (more-digits, digits_before) (tens_before n _ _ behind _ (omega arith) (omega arith) (omega arith) (before _ _ (omega arith)))

-- what is known of the digits of n
decimal_digits : (n : ℕ) → DigitsOf n [] (decimal n)
unfolding decimal
decimal_digits n = digits_of (suc n) n [] (omega arith)

-- a number reads back from its digits
pub decimal_reads_back : (n : ℕ) → decimal_from 0 (decimal n) ≡ n
unfolding decimal_from
decimal_reads_back n = (decimal_digits n).value

-- each byte is a digit
pub decimal_all_digits : (n : ℕ) → AllDigits (decimal n)
decimal_all_digits n = (decimal_digits n).are_digits (λ k inside. absurd (omega arith))

-- there is a first digit
pub decimal_some_digit : (n : ℕ) → 1 ≤ length (decimal n)
decimal_some_digit n = (decimal_digits n).some_digit

-- it is zero for 0 only
pub decimal_no_leading_zero : (n : ℕ) → get_or (decimal n) 0 0 ≡ 48 → n ≡ 0
decimal_no_leading_zero n = (decimal_digits n).no_leading_zero

-- what stands behind stays behind
digits_in_front : (steps n : ℕ) (front behind : List ℕ) → digits_before steps n (front ++ behind) ≡ digits_before steps n front ++ behind
unfolding digits_before
digits_in_front zero n front behind = refl
digits_in_front (suc steps) n front behind = go (ltb n 10) (digits_in_front steps (n / 10) ((48 + n % 10) ∷ front) behind)
  where
    go :
        (one-digit : Bool)
        → digits_before steps (n / 10) ((48 + n % 10) ∷ (front ++ behind)) ≡ digits_before steps (n / 10) ((48 + n % 10) ∷ front) ++ behind
        → elim one-digit [ true ↦ (48 + n) ∷ (front ++ behind) | false ↦ digits_before steps (n / 10) ((48 + n % 10) ∷ (front ++ behind)) ]
        ≡ elim one-digit [ true ↦ (48 + n) ∷ front | false ↦ digits_before steps (n / 10) ((48 + n % 10) ∷ front) ] ++ behind
    go true before = refl
    go false before = before

-- with steps enough, their number does not matter
steps_enough : (steps more n : ℕ) (behind : List ℕ) → n < steps → n < more → digits_before steps n behind ≡ digits_before more n behind
unfolding digits_before
steps_enough zero more n behind enough also = absurd (omega arith)
steps_enough (suc steps) zero n behind enough also = absurd (omega arith)
steps_enough (suc steps) (suc more) n behind enough also =
    go (ltb n 10) refl (λ (large : 10 ≤ n). steps_enough steps more (n / 10) ((48 + n % 10) ∷ behind) (omega arith) (omega arith))
  where
    go :
        (one-digit : Bool) → ltb n 10 ≡ one-digit
        → (10 ≤ n → digits_before steps (n / 10) ((48 + n % 10) ∷ behind) ≡ digits_before more (n / 10) ((48 + n % 10) ∷ behind))
        → digits_before (suc steps) n behind ≡ digits_before (suc more) n behind
    go true one-digit before = rw (one-digit, digits_before)
    go false more-digits before = rw (more-digits, digits_before) (before (ltb-false n 10 more-digits))

-- a number below ten is one digit
pub decimal_one_digit : (n : ℕ) → n < 10 → decimal n ≡ (48 + n) ∷ []
unfolding decimal digits_before
decimal_one_digit n small = rw (lt-ltb n 10 small, digits_before)

-- from ten on, it is the digits of the tens and the last digit
pub decimal_more_digits : (n : ℕ) → 10 ≤ n → decimal n ≡ decimal (n / 10) ++ ((48 + n % 10) ∷ [])
unfolding decimal digits_before
decimal_more_digits n large =
    rw (le-ltb n 10 large, digits_before)
    (digits_in_front n (n / 10) [] ((48 + n % 10) ∷ []) ∙ ap (λ digits. digits ++ ((48 + n % 10) ∷ [])) (steps_enough n (suc (n / 10)) (n / 10) [] (omega arith) (omega arith)))

-- the library's decimal digits are these
pub decimal_same : (n : ℕ) → n < 2 ^ 64 → of_library n ≡ decimal n
decimal_same = decimal_by_steps (λ n digits. digits ≡ decimal n)
    (λ n small. sym (decimal_one_digit n small))
    (λ n tens large same. ap (λ digits. digits ++ ((48 + n % 10) ∷ [])) same ∙ sym (decimal_more_digits n large))
