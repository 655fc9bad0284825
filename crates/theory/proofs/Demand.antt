-- Demand and load grow with time, and demand is subadditive: the two laws that carry the theory. The same for the rows of the first levels.
use mathlib.Core.Path.{◌≡◌, refl}
use Prim.Native.Nat.{ℕ, zero, suc, ◌+◌, ◌*◌, ◌≤◌, ◌<◌}
use mathlib.Core.List.{List, [], ◌∷◌, map}
use native.Mathlib.Nat.{mul-le-mul_right, add-mul, suc-mul, zero-mul, le_refl}
use native.Mathlib.Omega.{arith}
use lib.ListN.{length, get_or, take}
use Rattle.theory.specs.Row.{Row, row_at}
use Rattle.theory.specs.Gather.{sum}
use Rattle.theory.specs.Rank.{rivals}
use Rattle.theory.specs.Response.{ceil, demand, load}
use Rattle.theory.proofs.Ceil.{ceil_mono, ceil_subadditive}

-- what one row asks for up to t
abbrev pub ask : Row → ℕ → ℕ
ask row t = ceil t row.T * row.C

pub ask_mono : (row : Row) {s t : ℕ} → s ≤ t → ask row s ≤ ask row t
ask_mono row h = mul-le-mul_right row.C (ceil_mono row.T h)

pub ask_subadditive : (row : Row) (s t : ℕ) → ask row (s + t) ≤ ask row s + ask row t
ask_subadditive row s t =
    omega (arith, mul-le-mul_right row.C (ceil_subadditive row.T s t), add-mul (ceil s row.T) (ceil t row.T) row.C)

pub demand_mono : (rows : List Row) (hs : List ℕ) {s t : ℕ} → s ≤ t → demand rows hs s ≤ demand rows hs t
unfolding demand sum
demand_mono rows [] h = le_refl 0
demand_mono rows (x ∷ hs) h = omega (arith, ask_mono (row_at rows x) h, demand_mono rows hs h)

pub load_mono : (rows : List Row) (k : ℕ) {s t : ℕ} → s ≤ t → load rows k s ≤ load rows k t
unfolding load
load_mono rows k h = omega (arith, demand_mono rows (rivals rows k) h)

-- what the rows of the first j levels ask for up to t
unfoldable pub level_demand : List Row → ℕ → ℕ → ℕ
level_demand hs zero t = 0
level_demand hs (suc j) t = level_demand hs j t + ask (row_at hs j) t

pub level_demand_mono : (hs : List Row) (j : ℕ) {s t : ℕ} → s ≤ t → level_demand hs j s ≤ level_demand hs j t
unfolding level_demand
level_demand_mono hs zero h = le_refl 0
level_demand_mono hs (suc j) h = omega (arith, ask_mono (row_at hs j) h, level_demand_mono hs j h)

pub level_demand_subadditive : (hs : List Row) (j s t : ℕ) → level_demand hs j (s + t) ≤ level_demand hs j s + level_demand hs j t
unfolding level_demand
level_demand_subadditive hs zero s t = le_refl 0
level_demand_subadditive hs (suc j) s t = omega (arith, ask_subadditive (row_at hs j) s t, level_demand_subadditive hs j s t)

-- n times R more ticks ask for at most n times what R ticks ask for
pub level_demand_repeated : (hs : List Row) (j t R n : ℕ) → level_demand hs j (t + n * R) ≤ level_demand hs j t + n * level_demand hs j R
level_demand_repeated hs j t R zero = omega (arith, level_demand_mono hs j {s = t + 0 * R} {t = t} (omega (arith, zero-mul R)))
level_demand_repeated hs j t R (suc n) =
    let step : level_demand hs j (t + suc n * R) ≤ level_demand hs j ((t + n * R) + R) = level_demand_mono hs j (omega (arith, suc-mul n R)) in
    omega (arith, step, level_demand_subadditive hs j (t + n * R) R, level_demand_repeated hs j t R n, suc-mul n (level_demand hs j R))

pub level_demand_cons : (row : Row) (hs : List Row) (j t : ℕ) → level_demand (row ∷ hs) (suc j) t ≡ ask row t + level_demand hs j t
unfolding level_demand
level_demand_cons row hs zero t = omega arith
level_demand_cons row hs (suc j) t = omega (arith, level_demand_cons row hs j t)

-- the first j of a list of rows ask for what its first j levels do
pub demand_of_first : (rows : List Row) (hs : List ℕ) (j t : ℕ) → j ≤ length hs → level_demand (map (row_at rows) hs) j t ≡ demand rows (take j hs) t
unfolding demand sum level_demand
demand_of_first rows hs zero t h = refl
demand_of_first rows [] (suc j) t h = absurd (omega arith)
demand_of_first rows (x ∷ hs) (suc j) t h =
    omega (arith, level_demand_cons (row_at rows x) (map (row_at rows) hs) j t, demand_of_first rows hs j t (omega arith))

-- the row at a place of a list of rows that places name
pub row_of_place : (rows : List Row) (hs : List ℕ) (j : ℕ) → j < length hs → row_at (map (row_at rows) hs) j ≡ row_at rows (get_or hs j 0)
row_of_place rows [] j h = absurd (omega arith)
row_of_place rows (x ∷ hs) zero h = refl
row_of_place rows (x ∷ hs) (suc j) h = row_of_place rows hs j (omega arith)
