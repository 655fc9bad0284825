-- No listing is longer than 1102 bytes where no number has more than ten digits: 28 for the header, 44 for each of 24 rows, 18 for the last line. Nor is it empty.
use mathlib.Core.Path.{◌≡◌, refl, subst}
use Prim.Native.Nat.{ℕ, zero, suc, ◌+◌, ◌*◌, ◌/◌, ◌^◌, ◌≤◌, ◌<◌, suc-le-suc}
use mathlib.Core.Bool.{Bool, true, false}
use mathlib.Core.List.{List, [], ◌∷◌}
use native.Mathlib.Nat.{pow-suc}
use native.Mathlib.Omega.{arith}
use lib.Dec.{ltb}
use lib.ListN.{length, length-append}
use borrow.Author.Tests.{ltb-true, ltb-false}
use Rattle.placement.specs.Figures.{Figures, figures_at}
use Rattle.listing.specs.Listing.{ascii, decimal, row_line, row_lines, system_allowance, listing, refusal}
use Rattle.listing.proofs.Header.{header_line_length}
use Rattle.listing.proofs.Decimal.{decimal_one_digit, decimal_more_digits}
use Rattle.listing.proofs.SystemAllowance.{system_allowance_smallest}

-- a number below a power of ten has no more digits than that has zeros
pub decimal_length : (places n : ℕ) → n < 10 ^ suc places → length (decimal n) ≤ suc places
decimal_length zero n small = rw (decimal_one_digit n small) (omega arith)
decimal_length (suc places) n small = go (ltb n 10) refl (decimal_length places (n / 10) (omega (arith, pow-suc 10 (suc places))))
  where
    go : (one-digit : Bool) → ltb n 10 ≡ one-digit → length (decimal (n / 10)) ≤ suc places → length (decimal n) ≤ suc (suc places)
    go true one-digit tens = rw (decimal_one_digit n (ltb-true n 10 one-digit)) (omega arith)
    go false more-digits tens = rw (decimal_more_digits n (ltb-false n 10 more-digits), length-append) (omega arith)

-- figures of ten digits at most
pub record TenDigits (figures : Figures) : Type 0 where
  pub core_below : figures.core < 10 ^ 10
  pub response_below : figures.response < 10 ^ 10
  pub allowance_below : figures.allowance < 10 ^ 10

-- the line of a row
row_line_length : (number : ℕ) (figures : Figures) → number < 10 ^ 10 → TenDigits figures → length (row_line number figures) ≤ 44
unfolding row_line
row_line_length number figures small digits =
    simp length-append
    (omega (
      arith,
      decimal_length 9 number small,
      decimal_length 9 figures.core digits.core_below,
      decimal_length 9 figures.response digits.response_below,
      decimal_length 9 figures.allowance digits.allowance_below,
    ))

-- the lines of rows
row_lines_length : (number : ℕ) (all : List Figures) → number + length all ≤ 10 ^ 10 → ((i : ℕ) → i < length all → TenDigits (figures_at all i))
    → length (row_lines number all) ≤ 44 * length all
unfolding row_lines
row_lines_length number [] small digits = omega arith
row_lines_length number (figures ∷ others) small digits =
    simp length-append
    (omega (
      arith,
      row_line_length number figures (omega arith) (digits 0 (omega arith)),
      row_lines_length (suc number) others (omega arith) (λ i inside. digits (suc i) (suc-le-suc inside)),
    ))

-- THE LISTING OF AT MOST 24 ROWS
pub listing_length : (all : List Figures) → 1 ≤ length all → length all ≤ 24 → ((i : ℕ) → i < length all → TenDigits (figures_at all i)) → length (listing all) ≤ 1102
unfolding listing ascii
listing_length all some few digits =
    let system = system_allowance_smallest all some in
    let small : system_allowance all < 10 ^ 10 = subst (λ (a : ℕ). a < 10 ^ 10) system.its_allowance (digits system.row system.in_table).allowance_below in
    simp length-append (omega (arith, header_line_length, row_lines_length 1 all (omega arith) digits, decimal_length 9 (system_allowance all) small))

-- THE LINE OF A REFUSAL
pub refusal_length : (number row : ℕ) → number < 10 ^ 10 → row < 10 ^ 10 → length (refusal number row) ≤ 1102
unfolding refusal ascii
refusal_length number row number_small row_small = simp length-append (omega (arith, decimal_length 9 number number_small, decimal_length 9 row row_small))
