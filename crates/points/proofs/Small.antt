-- Where all rows are on time, a point allowance is a number from 0 to a million; and such a number out of its 64 bits.
use mathlib.Core.Path.{◌≡◌, sym, ap, ◌∙◌, subst}
use Prim.Native.Nat.{ℕ, ◌+◌, ◌≤◌, ◌<◌}
use mathlib.Core.List.{List}
use native.Mathlib.Omega.{arith}
use lib.IntN.{ℤ, pos, nat_abs}
use lib.ListN.{length}
use lib.Signed.{pos-nat_abs, yes_non_neg}
use Rattle.theory.specs.Row.{Row, row_at, AllWithin}
use Rattle.theory.specs.Response.{Meets, AllMeet}
use Rattle.theory.specs.Allowance.{raised, IsAllowance}
use Rattle.theory.specs.Points.{IsPointAllowance}
use Rattle.theory.proofs.Raise.{raised_in_set}
use Rattle.theory.proofs.Verdict.{within_steady}
use Rattle.theory.proofs.Allowance.{not_negative, allowance_of_points}
use Rattle.theory.proofs.Trial.{raise_bounded}
use Rattle.walks.proofs.Held.{held, held_as_it_is}
use Rattle.points.specs.Bounds.{IsSmall}

pub point_allowance_small : (rows : List Row) → AllWithin rows → AllMeet rows → (i : ℕ) → i < length rows → (z : ℤ) → IsPointAllowance rows i z → IsSmall z
point_allowance_small rows within all i inside z is-z =
    record { number = nat_abs z; by_million = omega (arith, room, (within i inside).by_period, (within i inside).by_million); is_number = sym same }
  where
    same : pos (nat_abs z) ≡ z
    same = pos-nat_abs z (yes_non_neg (not_negative rows (within_steady rows within) i inside all z is-z))

    is_allowance : IsAllowance rows i (nat_abs z)
    is_allowance = allowance_of_points rows (within_steady rows within) i inside all (nat_abs z) (subst (IsPointAllowance rows i) (sym same) is-z)

    still_meets : Meets (raised rows i (nat_abs z)) i
    still_meets = is_allowance.all_meet i ((raised_in_set rows i (nat_abs z)).1 inside)

    room : (all i inside).response + nat_abs z ≤ (row_at rows i).D
    room = raise_bounded rows i inside (nat_abs z) (all i inside).response (within i inside).runs (all i inside).is_response still_meets

-- a small number out of its bits is the number
pub small_bits : (z : ℤ) (small : IsSmall z) → held z ≡ pos small.number
small_bits z small = ap held small.is_number ∙ held_as_it_is (pos small.number) (omega (arith, small.by_million))
