-- The test of a row's limits passes exactly when the row keeps them; rows within the limits.
use mathlib.Core.Path.{◌≡◌, refl}
use Prim.Native.Nat.{zero, suc}
use native.Mathlib.Nat.{le_of_suc-le-suc}
use mathlib.Core.List.{List, ◌∷◌}
use mathlib.Core.Bool.{Bool, true, false, ◌&&◌}
use borrow.Author.Tests.{leb-true, le-leb}
use Rattle.theory.specs.Row.{Row, WithinLimits, within_limits, AllWithin}

-- two tests pass together only where each passes
pub both_pass : (a b : Bool) → a && b ≡ true → (a ≡ true) × (b ≡ true)
both_pass true b e = (refl, e)
both_pass false b e = (e, cc)

-- a row that passes the test keeps the limits
pub passing_keeps_limits : (row : Row) → within_limits row ≡ true → WithinLimits row
passing_keeps_limits row passes =
    let last = both_pass _ _ passes in
    let third = both_pass _ _ last.0 in
    let second = both_pass _ _ third.0 in
    record {
      runs = leb-true _ _ second.0;
      by_deadline = leb-true _ _ second.1;
      by_period = leb-true _ _ third.1;
      by_million = leb-true _ _ last.1;
    }

-- a row that keeps the limits passes the test
pub keeping_limits_passes : (row : Row) → WithinLimits row → within_limits row ≡ true
keeping_limits_passes row keeps = rw (le-leb _ _ keeps.runs, le-leb _ _ keeps.by_deadline, le-leb _ _ keeps.by_period, le-leb _ _ keeps.by_million)

-- a row within the limits before others within them
pub within_cons : (row : Row) (rows : List Row) → WithinLimits row → AllWithin rows → AllWithin (row ∷ rows)
within_cons row rows here others zero inside = here
within_cons row rows here others (suc k) inside = others k (le_of_suc-le-suc inside)
