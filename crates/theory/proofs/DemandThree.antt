-- DEMAND 3, in its own words: for every set of 1 to 24 rows on one core within the limits, all rows are on time by response times exactly when each has a
-- scheduling point of non-negative slack; and where they are on time, the point formula gives every row its allowance. Neither half needs the
-- number of rows: `on_time_by_points`, `allowance_of_points` and `points_of_allowance` hold for every set.
use Prim.Native.Nat.{ℕ, ◌≤◌, ◌<◌}
use mathlib.Core.Logic.{◌↔◌}
use mathlib.Core.List.{List}
use lib.IntN.{pos}
use lib.ListN.{length}
use Rattle.theory.specs.Row.{Row, AllWithin}
use Rattle.theory.specs.Response.{AllMeet}
use Rattle.theory.specs.Allowance.{IsAllowance}
use Rattle.theory.specs.Points.{HasPoint, IsPointAllowance}
use Rattle.theory.proofs.Verdict.{within_steady, on_time_by_points}
use Rattle.theory.proofs.Allowance.{allowance_of_points, points_of_allowance}

module _ (rows : List Row) (some : 1 ≤ length rows) (no_25th : length rows ≤ 24) (within : AllWithin rows) where
  pub on_time_exactly_by_points : AllMeet rows ↔ ((k : ℕ) → k < length rows → HasPoint rows k)
  on_time_exactly_by_points = on_time_by_points rows (within_steady rows within)

  pub allowance_exactly_by_points : AllMeet rows → (i : ℕ) → i < length rows → (a : ℕ) → IsAllowance rows i a ↔ IsPointAllowance rows i (pos a)
  allowance_exactly_by_points all i inside a =
      (points_of_allowance rows (within_steady rows within) i inside all a, allowance_of_points rows (within_steady rows within) i inside all a)
