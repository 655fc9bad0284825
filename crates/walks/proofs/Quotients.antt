-- The quotient of an entry at a point: for a row above by its jobs, for the row itself the slack.
use mathlib.Core.Path.{◌≡◌, refl, sym, ap}
use Prim.Native.Nat.{ℕ, ◌≤◌, ◌<◌}
use mathlib.Core.List.{List}
use native.Mathlib.Omega.{arith}
use native.Mathlib.Nat.{div-one, le_trans, mul-le-mul_left}
use borrow.Author.Tests.{lt-ltb, le-ltb}
use lib.IntN.{ℤ, pos, negsuc, ◌-ℤ◌}
use lib.ListN.{length, get_or}
use Rattle.theory.specs.Response.{ceil}
use Rattle.theory.specs.Points.{floor_div}
use Rattle.theory.proofs.Ceil.{ceil_positive, ceil_le}
use Rattle.demands.specs.Levels.{load_of}
use Rattle.walks.specs.Quotients.{divisor_of, quotient_of}

-- a number divided by 1 is the number
floor_by_one : (z : ℤ) → floor_div z 1 ≡ z
unfolding floor_div
floor_by_one (pos n) = ap pos (div-one n)
floor_by_one (negsuc n) = ap negsuc (div-one n)

-- the jobs of a row up to a million ticks: at least 1, and no more than the ticks
pub jobs_within : (p : ℕ) {T : ℕ} → 1 ≤ T → 1 ≤ p → p ≤ 1_000_000 → (1 ≤ ceil p T) × (ceil p T ≤ 1_000_000)
jobs_within p {T} positive some h =
    (ceil_positive p positive some, le_trans (ceil_le p p positive (omega (arith, mul-le-mul_left p positive))) h)

-- a row above: the slack divided by its jobs
pub quotient_above : (own : ℕ) (cs ts : List ℕ) (j p : ℕ) → j < length ts
    → floor_div (pos p -ℤ pos (load_of own cs ts p)) (ceil p (get_or ts j 0)) ≡ quotient_of own cs ts j p
unfolding quotient_of divisor_of
quotient_above own cs ts j p h = rw (lt-ltb j (length ts) h, quotient_of, divisor_of) refl

-- the row itself: the slack
pub quotient_own : (own : ℕ) (cs ts : List ℕ) (j p : ℕ) → length ts ≤ j → pos p -ℤ pos (load_of own cs ts p) ≡ quotient_of own cs ts j p
unfolding quotient_of divisor_of
quotient_own own cs ts j p h = rw (le-ltb j (length ts) h, quotient_of, divisor_of) (sym (floor_by_one (pos p -ℤ pos (load_of own cs ts p))))
