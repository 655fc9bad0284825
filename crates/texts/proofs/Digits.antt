-- The digits of a number behind leading zeros: what number they are.
use mathlib.Core.Path.{◌≡◌, refl, ap, ◌∙◌}
use Prim.Native.Nat.{ℕ, zero, suc, ◌≤◌, suc-le-suc}
use native.Mathlib.Omega.{arith}
use mathlib.Core.List.{List, [], ◌∷◌, ◌++◌}
use mathlib.Core.Option.{some}
use lib.ListN.{length, replicate}
use Rattle.theory.specs.Gather.{All}
use Rattle.listing.specs.Listing.{decimal}
use Rattle.listing.proofs.Decimal.{decimal_from, IsDigit, AllDigits, decimal_reads_back, decimal_all_digits, decimal_some_digit}
use Rattle.texts.specs.Text.{number_in}
use Rattle.texts.specs.Forms.{digit_zero}
use Rattle.texts.proofs.Numbers.{digits_number}

-- bytes that are digits at each place are all digits
each_digit : (bytes : List ℕ) → AllDigits bytes → All IsDigit bytes
each_digit [] digits = tt
each_digit (byte ∷ bytes) digits = (digits 0 (omega arith), each_digit bytes (λ k inside. digits (suc k) (suc-le-suc inside)))

-- so the digits of a number are
pub decimal_digits : (n : ℕ) → All IsDigit (decimal n)
decimal_digits n = each_digit (decimal n) (decimal_all_digits n)

-- zeros in front of digits are digits
pub zeros_digits : (zeros : ℕ) (digits : List ℕ) → All IsDigit digits → All IsDigit (replicate zeros digit_zero ++ digits)
zeros_digits zero digits are_digits = are_digits
zeros_digits (suc zeros) digits are_digits = (record { from_zero = omega arith; to_nine = omega arith }, zeros_digits zeros digits are_digits)

-- and change no number
pub zeros_same : (zeros : ℕ) (digits : List ℕ) → decimal_from 0 (replicate zeros digit_zero ++ digits) ≡ decimal_from 0 digits
unfolding decimal_from
zeros_same zero digits = refl
zeros_same (suc zeros) digits = zeros_same zeros digits

-- as many as there are behind zeros, or more
pub zeros_longer : (zeros : ℕ) (digits : List ℕ) → length digits ≤ length (replicate zeros digit_zero ++ digits)
zeros_longer zero digits = omega arith
zeros_longer (suc zeros) digits = omega (arith, zeros_longer zeros digits)

-- LEADING ZEROS CHANGE NO NUMBER
pub zeros_read : (zeros : ℕ) (digits : List ℕ) → All IsDigit digits → 1 ≤ length digits
    → number_in (replicate zeros digit_zero ++ digits) ≡ some (decimal_from 0 digits)
zeros_read zeros digits are_digits one =
    digits_number (replicate zeros digit_zero ++ digits) (zeros_digits zeros digits are_digits) (omega (arith, zeros_longer zeros digits)) ∙ ap some (zeros_same zeros digits)

-- the digits of a number behind zeros are that number
pub decimal_read : (zeros n : ℕ) → number_in (replicate zeros digit_zero ++ decimal n) ≡ some n
decimal_read zeros n = zeros_read zeros (decimal n) (decimal_digits n) (decimal_some_digit n) ∙ ap some (decimal_reads_back n)
