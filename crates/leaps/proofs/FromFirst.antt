-- Starts that are not below the load at 1: what makes a value one, and that the climbs' starts are such: C_k plus the C of all rows in the sum, a response
-- time, a start with less and the difference, and the row's own time after the response time of the row before it. A value that a climb goes on from is one
-- again, since it lies above.
use mathlib.Core.Path.{◌≡◌, ap, ◌∙◌}
use Prim.Native.Nat.{ℕ, zero, suc, ◌+◌, ◌-◌, ◌*◌, ◌≤◌, ◌<◌}
use mathlib.Core.List.{List}
use native.Mathlib.Omega.{arith}
use native.Mathlib.Nat.{le_refl, mul-one}
use lib.ListN.{length, get_or, take, length-take}
use lib.Seq.{get_or-take}
use Rattle.theory.specs.Row.{Row}
use Rattle.theory.specs.Response.{ceil, load}
use Rattle.theory.specs.Climb.{RoomAt, LeastRoom, Start}
use Rattle.theory.proofs.Ceil.{ceil_one}
use Rattle.theory.proofs.Verdict.{AllSteady}
use Rattle.demands.specs.Levels.{demand_of, load_of, Small}
use Rattle.demands.proofs.Levels.{demand_of_one_more}
use Rattle.climbs.proofs.Load.{load_of_mono}
use Rattle.climbs.proofs.After.{load_at, RespondsBefore, start_after}
use Rattle.demands.specs.Loads.{raised_load}
use Rattle.leaps.specs.Start.{StartFromFirst, start_of}
use Rattle.leaps.proofs.Starts.{starts, start_with_more}
use Rattle.leaps.proofs.StartOf.{start_is_first_load, start_of_starts}

module _ (next : ℕ → ℕ) (mono : (s t : ℕ) → s ≤ t → next s ≤ next t) where
  -- a value that is not below the first and below no time with room is one
  pub starts_from_first : 1 ≤ next 1 → (t : ℕ) → next 1 ≤ t → ((S : ℕ) → RoomAt next S → t ≤ S) → StartFromFirst next t
  starts_from_first some t first below = record { may_start = starts next mono some t (omega arith) below; from_first = first }

  -- a start after one is one
  pub later_from_first : {t v : ℕ} → StartFromFirst next t → Start next v → t ≤ v → StartFromFirst next v
  later_from_first start later after = record { may_start = later; from_first = omega (arith, start.from_first) }

  -- the least time with room is one
  pub least_from_first : {R : ℕ} → LeastRoom next R → StartFromFirst next R
  least_from_first {R} least = record {
    may_start = record { from_one = least.room.from_one; rises = omega (arith, least.repeats); below_room = least.least };
    from_first = omega (arith, mono 1 R least.room.from_one, least.repeats);
  }

-- C_k plus the C of all rows in the sum is one
pub start_of_from_first : (rows : List Row) → AllSteady rows → (k : ℕ) → k < length rows → StartFromFirst (load rows k) (start_of rows k)
start_of_from_first rows steady k inside = record { may_start = start_of_starts rows steady k inside; from_first = omega (arith, start_is_first_load rows steady k inside) }

-- with more, the difference later
pub more_from_first : (own : ℕ) (cs ts : List ℕ) (period a b s : ℕ) → a ≤ b → 1 ≤ own → 1 ≤ period → StartFromFirst (raised_load own cs ts period a) s
    → StartFromFirst (raised_load own cs ts period b) (s + (b - a))
more_from_first own cs ts period a b s h runs positive start = record {
  may_start = start_with_more own cs ts period a b s h runs positive start.may_start;
  from_first = omega (arith, start.from_first, once_at_first a, once_at_first b);
}
  where
    once_at_first : (x : ℕ) → x * ceil 1 period ≡ x
    once_at_first x = ap (λ (n : ℕ). x * n) (ceil_one 1 {m = period} (le_refl 1) positive) ∙ mul-one x

module _ (cs ts : List ℕ) (same : length ts ≡ length cs) where
  -- a row behind another is loaded at 1 by its own time and the other's load
  first_load : (j own : ℕ) → j < length cs → 1 ≤ get_or ts j 0 → load_of own (take (suc j) cs) (take (suc j) ts) 1 ≡ own + load_at cs ts same j 1
  first_load j own inside positive =
      omega (arith, demand_of_one_more cs ts j 1 inside same, ap (λ (n : ℕ). n * get_or cs j 0) (ceil_one 1 {m = get_or ts j 0} (le_refl 1) positive))

  -- the row's own time after the response time of the row before it
  pub after_from_first : (j own r : ℕ) → j ≤ length cs → Small (take j cs) (take j ts) → ((i : ℕ) → i < j → 1 ≤ get_or cs i 0) → 1 ≤ own → RespondsBefore cs ts same j r
      → StartFromFirst (load_of own (take j cs) (take j ts)) (r + own)
  unfolding demand_of
  after_from_first j own r inside small each-runs runs before = record {
    may_start = start_after cs ts same j own r inside small each-runs runs before;
    from_first = first j inside small before;
  }
    where
      first : (i : ℕ) → i ≤ length cs → Small (take i cs) (take i ts) → RespondsBefore cs ts same i r → load_of own (take i cs) (take i ts) 1 ≤ r + own
      first zero inside small none = omega arith
      first (suc i) inside small before =
          let positive : 1 ≤ get_or ts i 0 = omega (arith, small.period_positive i (omega (arith, length-take (suc i) cs)), get_or-take (suc i) ts i 0 (omega arith)) in
          omega (arith, first_load i own inside positive, load_of_mono (get_or cs i 0) (take i cs) (take i ts) 1 r before.room.from_one, before.repeats)
