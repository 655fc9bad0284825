-- The largest raise that a point has room for: the quotient.
use mathlib.Core.Path.{◌≡◌, ap}
use Prim.Native.Nat.{ℕ, suc, ◌+◌, ◌-◌, ◌*◌, ◌/◌, ◌≤◌, ◌<◌}
use mathlib.Core.List.{List}
use native.Mathlib.Omega.{arith}
use native.Mathlib.Nat.{le-div_iff_mul-le, lt-div-mul-add, div-mul-le_self, div-le_self}
use Rattle.theory.specs.Response.{ceil}
use Rattle.demands.specs.Levels.{load_of}
use Rattle.demands.specs.Loads.{raised_load}
use Rattle.reasons.specs.Reason.{LargestAt}

-- at a point, with so much load there without the raise and so many jobs that are counted with it, where there is room for the least
pub largest_quotient : (own : ℕ) (cs ts : List ℕ) (period p least load jobs : ℕ) → load ≡ load_of own cs ts p → jobs ≡ ceil p period
    → 0 < jobs → load + least * jobs ≤ p → LargestAt (raised_load own cs ts period) p least ((p - load) / jobs)
largest_quotient own cs ts period p least load jobs is_load are-jobs some room =
    let q = (p - load) / jobs in
    record {
      at_least = (le-div_iff_mul-le some).1 (omega arith);
      by_point = omega (arith, div-le_self (p - load) jobs);
      room = omega (arith, is_load, ap (λ (n : ℕ). q * n) are-jobs, div-mul-le_self (p - load) jobs);
      no_more = λ h. omega (arith, is_load, ap (λ (n : ℕ). suc q * n) are-jobs, lt-div-mul-add {a = p - load} some);
    }
