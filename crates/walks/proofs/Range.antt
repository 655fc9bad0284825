-- Best quotients stay in range over a walk: they only rise, and no quotient is above its point.
use mathlib.Core.Path.{sym, subst}
use Prim.Native.Nat.{ℕ, ◌≤◌}
use mathlib.Core.Logic.{⊎_elim}
use mathlib.Core.List.{List}
use native.Mathlib.Nat.{le_trans}
use lib.IntN.{ℤ, pos}
use lib.Signed.{◌≤ℤ◌}
use Rattle.theory.specs.Lists.{rows_of}
use Rattle.theory.proofs.Signed.{≤ℤ-trans, pos_le}
use Rattle.theory.proofs.QuotientRange.{quotient_at_most}
use Rattle.theory.proofs.Walk.{walk_within}
use Rattle.demands.specs.Levels.{load_of}
use Rattle.walks.specs.Quotients.{divisor_of, quotient_of, AllInRange, NewPoints, AllLifted}

pub still_in_range : (own : ℕ) (cs ts : List ℕ) (level time last : ℕ) → time ≤ 1_000_000
    → (before after : List ℤ)
    → AllLifted own cs ts (NewPoints cs ts level time last) before after
    → AllInRange cs before
    → AllInRange cs after
unfolding quotient_of
still_in_range own cs ts level time last h before after lifted all j inside = record {
  from_least = ≤ℤ-trans _ _ _ (all j inside).from_least (lifted j inside).onward;
  to_million =
      ⊎_elim (λ same. subst Below (sym same) (all j inside).to_million)
      (λ q.
      subst Below q.2
      (≤ℤ-trans _ _ _ (quotient_at_most q.0 (load_of own cs ts q.0) (divisor_of ts j q.0)) (pos_le (le_trans (walk_within (rows_of cs ts ts) level time q.0 q.1.0) h))))
      (lifted j inside).attained;
}
  where
    Below : ℤ → Type 0
    Below z = z ≤ℤ pos 1_000_000
