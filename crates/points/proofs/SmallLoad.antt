-- No load up to a million ticks is large, so no quotient is below the number that the best ones begin at.
use Prim.Native.Nat.{ℕ, suc, ◌*◌, ◌≤◌, ◌<◌}
use mathlib.Core.List.{List, [], ◌∷◌}
use native.Mathlib.Omega.{arith}
use lib.IntN.{ℤ, pos}
use lib.ListN.{length, get_or, replicate, get_or-replicate}
use lib.Signed.{◌≤ℤ◌}
use Rattle.theory.proofs.QuotientRange.{quotient_at_least}
use Rattle.demands.specs.Levels.{demand_of, load_of, Small}
use Rattle.demands.proofs.Levels.{ask_small}
use Rattle.walks.specs.Quotients.{divisor_of, quotient_of, least, InRange, AllInRange}

-- each row asks for at most two million
demand_of_small : (cs ts : List ℕ) (t : ℕ) → t ≤ 1_000_000
    → ((j : ℕ) → j < length cs → (1 ≤ get_or ts j 0) × (get_or cs j 0 ≤ get_or ts j 0) × (get_or ts j 0 ≤ 1_000_000))
    → demand_of cs ts t ≤ 2_000_000 * length cs
unfolding demand_of
demand_of_small [] ts t h each = omega arith
demand_of_small (c ∷ cs) [] t h each = omega arith
demand_of_small (c ∷ cs) (T ∷ ts) t h each =
    let first = each 0 (omega arith) in
    omega (arith, ask_small t T c first.0 first.1 first.2 h, demand_of_small cs ts t h (λ j l. each (suc j) (omega arith)))

-- no quotient is below the least
pub least_below : (own : ℕ) (cs ts : List ℕ) → own ≤ 1_000_000 → Small cs ts → (j p : ℕ) → p ≤ 1_000_000 → least ≤ℤ quotient_of own cs ts j p
unfolding quotient_of
least_below own cs ts own-small small j p h =
    quotient_at_least 49_999_999 p (load_of own cs ts p) (divisor_of ts j p)
    (omega (arith, small.few, demand_of_small cs ts p h (λ i l. (small.period_positive i l, small.by_period i l, small.by_million i l))))

-- entries that all begin at a number in range are in range
pub begin_in_range : {z : ℤ} → InRange z → {cs ts : List ℕ} → Small cs ts → AllInRange cs (replicate 25 z)
begin_in_range {z} h small j inside = rw (get_or-replicate 25 j z (pos 0) (omega (arith, small.few))) h
