-- No text of a certified table is longer than 1654 bytes where no number has more than ten digits: 46 for the header, 67 for each of 24 rows.
use mathlib.Core.Path.{◌≡◌, refl}
use Prim.Native.Nat.{ℕ, suc, ◌*◌, ◌≤◌, ◌<◌, suc-le-suc}
use mathlib.Core.List.{List, [], ◌∷◌}
use native.Mathlib.Omega.{arith}
use lib.ListN.{length, length-append}
use Rattle.theory.specs.Row.{Row, WithinLimits, AllWithin}
use Rattle.placement.specs.Figures.{Figures, figures_at}
use Rattle.listing.specs.Listing.{ascii}
use Rattle.listing.proofs.Longest.{decimal_length, TenDigits}
use Rattle.texts.specs.Text.{names}
use Rattle.texts.specs.Forms.{joined}
use Rattle.texts.specs.Columns.{line_of, all_names, certified_line, certified_lines, certified_text}

-- the header line is 46 bytes, its end counted
pub header_length : length (line_of all_names) ≡ 46
unfolding joined line_of all_names names ascii
header_length = refl

-- the line of a row
line_length : (row : Row) (figures : Figures) → WithinLimits row → TenDigits figures → length (certified_line row figures) ≤ 67
unfolding certified_line joined line_of
line_length row figures within digits =
    simp length-append
    (omega (
      arith,
      decimal_length 9 row.C (omega (arith, within.by_deadline, within.by_period, within.by_million)),
      decimal_length 9 row.D (omega (arith, within.by_period, within.by_million)),
      decimal_length 9 row.T (omega (arith, within.by_million)),
      decimal_length 9 figures.core digits.core_below,
      decimal_length 9 figures.response digits.response_below,
      decimal_length 9 figures.allowance digits.allowance_below,
    ))

-- the lines of rows
lines_length : (rows : List Row) (all : List Figures) → AllWithin rows → ((i : ℕ) → i < length all → TenDigits (figures_at all i)) → length (certified_lines rows all) ≤ 67 * length rows
unfolding certified_lines
lines_length [] all within digits = omega arith
lines_length (row ∷ rows) [] within digits = omega arith
lines_length (row ∷ rows) (figures ∷ all) within digits =
    simp length-append
    (omega (
      arith,
      line_length row figures (within 0 (omega arith)) (digits 0 (omega arith)),
      lines_length rows all (λ k inside. within (suc k) (suc-le-suc inside)) (λ i inside. digits (suc i) (suc-le-suc inside)),
    ))

-- THE TEXT OF AT MOST 24 ROWS
pub certified_text_length : (rows : List Row) (all : List Figures) → length rows ≤ 24 → AllWithin rows → ((i : ℕ) → i < length all → TenDigits (figures_at all i))
    → length (certified_text rows all) ≤ 1654
unfolding certified_text
certified_text_length rows all few within digits = simp length-append (omega (arith, header_length, lines_length rows all within digits))
