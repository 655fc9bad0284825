-- C_k plus the C of all rows in the sum is the load at 1, so no solution is below it and the load at it is not below it. The climb from there comes to the
-- outcome, as the one from 1 does.
use mathlib.Core.Path.{◌≡◌, refl, ap}
use Prim.Native.Nat.{ℕ, ◌+◌, ◌*◌, ◌<◌}
use mathlib.Core.List.{List}
use native.Mathlib.Omega.{arith}
use native.Mathlib.Nat.{le_refl, le_antisymm}
use lib.Dec.{T}
use lib.ListN.{length}
use Rattle.theory.specs.Row.{Row, row_at}
use Rattle.theory.specs.Rank.{rival, rivals}
use Rattle.theory.specs.Response.{ceil, demand, load, Outcome, responds, misses, climb, outcome}
use Rattle.theory.specs.Climb.{Start, Climbed}
use Rattle.theory.proofs.Member.{all_at, all_from}
use Rattle.theory.proofs.Sum.{sum_eq}
use Rattle.theory.proofs.Ceil.{ceil_one}
use Rattle.theory.proofs.Demand.{load_mono}
use Rattle.theory.proofs.Rank.{all_rivals}
use Rattle.theory.proofs.Climb.{start_again, climb_right}
use Rattle.theory.proofs.Response.{start_at_one, climb_from_one}
use Rattle.theory.proofs.Verdict.{AllSteady}
use Rattle.leaps.specs.Start.{start_of}

-- what a climb to a limit must come to is one outcome
pub climbed_unique : (next : ℕ → ℕ) (limit : ℕ) (o p : Outcome) → Climbed next limit o → Climbed next limit p → o ≡ p
climbed_unique next limit (responds R) (responds S) r s = ap responds (le_antisymm (r.0.least S s.0.room) (s.0.least R r.0.room))
climbed_unique next limit (responds R) misses r s = absurd (let past : limit < R = s R r.0.room in omega (arith, r.1))
climbed_unique next limit misses (responds S) r s = absurd (let past : limit < S = r S s.0.room in omega (arith, s.1))
climbed_unique next limit misses misses r s = refl

module _ (rows : List Row) (steady : AllSteady rows) (k : ℕ) (inside : k < length rows) where
  -- it is the load at 1
  pub start_is_first_load : start_of rows k ≡ load rows k 1
  unfolding start_of load demand
  start_is_first_load =
      ap (λ (asked : ℕ). (row_at rows k).C + asked)
      (sum_eq (λ h. (row_at rows h).C) (λ h. ceil 1 (row_at rows h).T * (row_at rows h).C) (rivals rows k)
      (all_from (rivals rows k) (λ h m. runs_once h (all_at (λ x. (x < length rows) × T (rival rows x k)) m (all_rivals rows k)).0)))
    where
      runs_once : (h : ℕ) → h < length rows → (row_at rows h).C ≡ ceil 1 (row_at rows h).T * (row_at rows h).C
      runs_once h in_set =
          let row = steady h in_set in
          rw (ceil_one 1 {m = (row_at rows h).T} (le_refl 1) (omega (arith, row.some_deadline, row.by_period))) (omega arith)

  -- the climb may start from it: no solution is below it, and the load at it is not below it
  pub start_of_starts : Start (load rows k) (start_of rows k)
  start_of_starts = rw start_is_first_load (start_again (load rows k) (λ s t h. load_mono rows k h) 1 (start_at_one rows k (steady k inside).runs))

  -- the climb from it, with as many rounds as the limit
  pub climb_from_start : (limit : ℕ) → Climbed (load rows k) limit (climb (load rows k) limit limit (start_of rows k))
  climb_from_start limit =
      climb_right (load rows k) (λ s t h. load_mono rows k h) limit limit (start_of rows k) start_of_starts (omega (arith, start_of_starts.from_one))

  -- it comes to the outcome, as the climb from 1 does
  pub same_from_start : climb (load rows k) (row_at rows k).D (row_at rows k).D (start_of rows k) ≡ outcome rows k
  unfolding outcome
  same_from_start =
      climbed_unique (load rows k) (row_at rows k).D (climb (load rows k) (row_at rows k).D (row_at rows k).D (start_of rows k))
      (climb (load rows k) (row_at rows k).D (row_at rows k).D 1) (climb_from_start (row_at rows k).D) (climb_from_one rows k (steady k inside).runs (row_at rows k).D)
