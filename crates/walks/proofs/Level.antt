-- Every entry lifted to its quotients at the new points of a level: by nothing, by the start, or by what the level below lifts it to.
use mathlib.Core.Path.{◌≡◌, subst, sym}
use Prim.Native.Nat.{ℕ, suc, max, ◌≤◌, ◌<◌}
use mathlib.Core.List.{List}
use native.Mathlib.Omega.{arith}
use lib.IntN.{ℤ}
use lib.ListN.{length, get_or}
use lib.Signed.{≤ℤ_refl}
use Rattle.theory.specs.Points.{last_multiple}
use Rattle.theory.proofs.Signed.{≤ℤ-trans}
use Rattle.theory.proofs.Moved.{moved_to_nothing, moved_in_two, moved_alike}
use Rattle.walks.specs.Quotients.{NewPoints, AllLifted}
use Rattle.walks.proofs.NewPoints.{none_new, start_new, new_is_start, new_from_time, new_from_multiple, new_of_time, new_of_both}

module _ (own : ℕ) (cs ts : List ℕ) (level time last : ℕ) where
  -- a time not above the last one
  pub nothing_lifted : time ≤ last → (best : List ℤ) → AllLifted own cs ts (NewPoints cs ts level time last) best best
  nothing_lifted h best =
      λ k inside. moved_to_nothing _ ≤ℤ_refl ≤ℤ-trans _ _ (λ p. none_new cs ts level time last p h) _

  -- level 0
  pub start_lifted : last < time → level ≡ 0
      → (before after : List ℤ)
      → AllLifted own cs ts (λ x. x ≡ time) before after
      → AllLifted own cs ts (NewPoints cs ts level time last) before after
  start_lifted h zero-level before after r =
      subst (λ (n : ℕ). AllLifted own cs ts (NewPoints cs ts n time last) before after) (sym zero-level)
      (λ k inside. moved_alike _ ≤ℤ_refl ≤ℤ-trans _ _ _ (λ p. start_new cs ts time last p h) (λ p. new_is_start cs ts time last p) _ _ (r k inside))

  -- the level one above level j, whose multiple is s
  module _ (as_many : length ts ≡ length cs) (j : ℕ) (one-above : level ≡ suc j) (s : ℕ) (multiple : s ≡ last_multiple (get_or ts j 0) time) where
    -- where the multiple is 0, the level below from the time
    pub time_lifted : s ≡ 0
        → (before after : List ℤ)
        → AllLifted own cs ts (NewPoints cs ts j time last) before after
        → AllLifted own cs ts (NewPoints cs ts level time last) before after
    time_lifted none before after r =
        λ k inside. moved_alike _ ≤ℤ_refl ≤ℤ-trans _ _ _
        (λ p. new_from_time _ _ as_many _ _ one-above _ _ _ multiple last p (omega arith))
        (λ p. new_of_time _ _ as_many _ _ one-above _ _ _ multiple p none) _ _ (r k inside)

    -- else the level below from the multiple, and then from the time
    pub both_lifted : 0 < s
        → (reached : ℕ)
        → reached ≡ max last s
        → (before middle after : List ℤ)
        → AllLifted own cs ts (NewPoints cs ts j s last) before middle
        → AllLifted own cs ts (NewPoints cs ts j time reached) middle after
        → AllLifted own cs ts (NewPoints cs ts level time last) before after
    both_lifted some reached further before middle after first second =
        λ k inside. moved_in_two _ ≤ℤ_refl ≤ℤ-trans _ _ _ _
        (λ p. new_from_multiple _ _ as_many _ _ one-above _ _ _ multiple p some)
        (λ p. new_from_time _ _ as_many _ _ one-above _ _ _ multiple reached p (omega arith))
        (λ p. new_of_both _ _ as_many _ _ one-above _ _ _ multiple reached p further) _ _ _ (first k inside) (second k inside)
