-- A row's jobs as std rounds up; what the first j rows of two lists ask for, and how much that can be.
use mathlib.Core.Path.{◌≡◌}
use Prim.Native.Nat.{ℕ, zero, suc, ◌+◌, ◌-◌, ◌*◌, ◌/◌, ◌≤◌, ◌<◌}
use mathlib.Core.List.{List, [], ◌∷◌}
use native.Mathlib.Omega.{arith}
use native.Mathlib.Nat.{mul-le-mul_left, mul_comm, div-mul-le_self}
use lib.ListN.{length, get_or, take}
use Rattle.theory.specs.Response.{ceil}
use Rattle.demands.specs.Levels.{demand_of}

-- one row more
pub demand_of_one_more : (cs ts : List ℕ) (j t : ℕ) → j < length cs → length ts ≡ length cs
    → demand_of (take (suc j) cs) (take (suc j) ts) t ≡ demand_of (take j cs) (take j ts) t + ceil t (get_or ts j 0) * get_or cs j 0
unfolding demand_of
demand_of_one_more [] ts j t h e = absurd (omega arith)
demand_of_one_more (c ∷ cs) [] j t h e = absurd (omega arith)
demand_of_one_more (c ∷ cs) (T ∷ ts) zero t h e = omega arith
demand_of_one_more (c ∷ cs) (T ∷ ts) (suc j) t h e = omega (arith, demand_of_one_more cs ts j t (omega arith) (omega arith))

-- what one row asks for up to a million ticks is at most two million
pub ask_small : (t T C : ℕ) → 1 ≤ T → C ≤ T → T ≤ 1_000_000 → t ≤ 1_000_000 → ceil t T * C ≤ 2_000_000
unfolding ceil
ask_small t T C positive by_period by_million h =
    omega (arith, mul-le-mul_left ((t + (T - 1)) / T) by_period, div-mul-le_self (t + (T - 1)) T)

-- what a raise of at most its period asks for up to a million ticks is at most two million
pub raise_small : (a period t : ℕ) → a ≤ period → 1 ≤ period → period ≤ 1_000_000 → t ≤ 1_000_000 → a * ceil t period ≤ 2_000_000
raise_small a period t by_period positive by_million h = omega (arith, ask_small t period a positive by_period by_million h, mul_comm a (ceil t period))
