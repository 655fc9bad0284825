-- A sum as it grows row by row to what all rows ask for, at most two million for each.
use mathlib.Core.Path.{◌≡◌, refl, sym}
use Prim.Native.Nat.{ℕ, ◌+◌, ◌*◌, ◌≤◌, ◌<◌}
use mathlib.Core.List.{List}
use native.Mathlib.Numerals.{add-one}
use native.Mathlib.Omega.{arith}
use lib.ListN.{length, get_or, take}
use Rattle.theory.specs.Response.{ceil}
use Rattle.demands.specs.Levels.{demand_of, Small}
use Rattle.demands.proofs.Levels.{demand_of_one_more, ask_small}

-- the sum is what the first j rows ask for up to a time
pub record AskedUpTo (cs ts : List ℕ) (time j sum : ℕ) : Type 0 where
  pub within : j ≤ length cs
  pub is_sum : sum ≡ demand_of (take j cs) (take j ts) time
  pub small : sum ≤ j * 2_000_000

-- no rows
pub none_asked : (cs ts : List ℕ) (time : ℕ) → AskedUpTo cs ts time 0 0
unfolding demand_of
none_asked cs ts time = record { within = omega arith; is_sum = refl; small = omega arith }

module _ {cs ts : List ℕ} {time : ℕ} (rows : Small cs ts) (h : time ≤ 1_000_000) {j sum : ℕ} (so_far : AskedUpTo cs ts time j sum) where
  -- what the next row asks for, with m jobs
  pub next_asked : {own period m : ℕ} → j < length cs → own ≡ get_or cs j 0 → period ≡ get_or ts j 0 → m ≡ ceil time period → m * own ≤ 2_000_000
  next_asked {own} {period} inside own_there period_there jobs =
      rw jobs (ask_small time period own
      (omega (arith, period_there, rows.period_positive j inside)) (omega (arith, own_there, period_there, rows.by_period j inside))
      (omega (arith, period_there, rows.by_million j inside)) h)

  -- one row more
  pub one_more_asked : {own period m : ℕ} → j < length cs → own ≡ get_or cs j 0 → period ≡ get_or ts j 0 → m ≡ ceil time period
      → AskedUpTo cs ts time (j + 1) (sum + m * own)
  one_more_asked {own} {period} {m} inside own_there period_there jobs = record {
    within = omega (arith, inside);
    is_sum = rw (jobs, own_there, period_there, so_far.is_sum, add-one) (sym (demand_of_one_more cs ts j time inside rows.as_many));
    small = omega (arith, so_far.small, next_asked inside own_there period_there jobs);
  }
