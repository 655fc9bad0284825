-- The verdict on rows by the smallest of their point allowances.
use Rattle.std.proofs.Common.{Result, Ok, Err, arith, unsigned_abs}
use Rattle.std.proofs.lemmas.Int.{ints}
use Rattle.std.specs.Result.{OkIff, result_ok}
use Rattle.std.specs.Int.{FitsUnsignedBits}
use Rattle.theory.specs.Allowance.{IsCoreAllowance}
use lib.IntN.{negsuc}
use mathlib.Core.Path.{sym, subst}
use Prim.Native.Nat.{ℕ, ◌<◌}
use mathlib.Core.List.{List}
use lib.IntN.{ℤ, pos, nat_abs}
use lib.ListN.{length, get_or}
use lib.Signed.{◌≤ℤ◌}
use Rattle.theory.specs.Row.{Row, AllWithin}
use Rattle.theory.specs.Response.{AllMeet}
use Rattle.theory.specs.Points.{IsPointAllowance}
use Rattle.theory.specs.Lists.{rows_of, Shaped}
use Rattle.theory.proofs.Verdict.{AllSteady, within_steady}
use Rattle.theory.proofs.CoreAllowance.{IsCorePointAllowance, smallest_of_points, meets_by_points, core_allowance_of_points}
use Rattle.climbs.proofs.InLists.{in_lists, in_rows}
use Rattle.points.proofs.Small.{point_allowance_small}
use Rattle.fits.specs.Fit.{IsFit}
use Rattle.fits.specs.Smallest.{IsSmallest}

-- the smallest of numbers that are the point allowances of rows in lists
pub core_points : (cs ds ts : List ℕ) → Shaped cs ds ts
    → {allowed : List ℤ} {z : ℤ}
    → ((i : ℕ) → i < length cs → IsPointAllowance (rows_of cs ds ts) i (get_or allowed i (pos 0)))
    → IsSmallest allowed (length cs) z
    → IsCorePointAllowance (rows_of cs ds ts) z
core_points cs ds ts shaped {allowed} are is-z =
    subst (IsCorePointAllowance (rows_of cs ds ts)) is-z.there
    (smallest_of_points (rows_of cs ds ts) (λ i. get_or allowed i (pos 0)) (λ i h. are i (in_lists cs ds ts shaped h)) is-z.place (in_rows cs ds ts shaped is-z.inside)
    (λ i h. subst (λ (y : ℤ). y ≤ℤ get_or allowed i (pos 0)) (sym is-z.there) (is-z.at_most_each i (in_lists cs ds ts shaped h))))

-- a number of 32 bits is none below 0
not_below_zero : (z : ℤ) → FitsUnsignedBits 32 z → pos 0 ≤ℤ z
not_below_zero (pos n) h = omega (arith, ints)
not_below_zero (negsuc n) h = absurd h

module _ {rows : List Row} {z : ℤ} (within : AllWithin rows) (is-z : IsCorePointAllowance rows z) where
  steady : AllSteady rows
  steady = within_steady rows within

  -- where the rows all meet, it is a number of 32 bits
  fits_32_bits : AllMeet rows → FitsUnsignedBits 32 z
  fits_32_bits all =
      let small = point_allowance_small rows within all is-z.row is-z.in_set z is-z.its_allowance in
      subst (FitsUnsignedBits 32) (sym small.is_number) (omega (arith, small.by_million))

  -- so the fit is that number, or none where it is no such number
  pub fit_of_least : {E : Type 0} (number : Result ℕ E) → OkIff number (FitsUnsignedBits 32 z) (unsigned_abs z) → IsFit rows (result_ok number)
  fit_of_least (Ok x) (fits, same) =
      let all : AllMeet rows = meets_by_points rows steady z is-z (not_below_zero z fits) in
      (all, subst (IsCoreAllowance rows) (sym same) (core_allowance_of_points rows steady z is-z all))
  fit_of_least (Err e) none = λ all. none (fits_32_bits all)
