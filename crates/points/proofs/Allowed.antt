-- The allowances after the bounds of the first rows by rank: each lowered, from the greatest 64-bit number, to the bounds of those that raising its row
-- touches. After the bounds of all rows they are the point allowances.
use mathlib.Core.Path.{◌≡◌, refl, sym, ap, ◌∙◌, subst}
use Prim.Native.Nat.{ℕ, ◌+◌, ◌≤◌, ◌<◌}
use mathlib.Core.Logic.{◌⊎◌, inl, inr, ⊎_elim}
use mathlib.Core.List.{List}
use native.Mathlib.Omega.{arith}
use lib.Dec.{T, eqb, eqb_refl}
use lib.IntN.{ℤ, pos}
use lib.ListN.{length, get_or, take, replicate, get_or-replicate}
use lib.Signed.{◌≤ℤ◌, ≤ℤ_refl}
use Rattle.theory.specs.Row.{Row, row_at, AllWithin}
use Rattle.theory.specs.Rank.{rival, levels}
use Rattle.theory.specs.Response.{load}
use Rattle.theory.specs.Moved.{LoweredTo}
use Rattle.theory.specs.Points.{IsBound, IsPointAllowance, points, slack, times, quotient, touches, bound}
use Rattle.theory.specs.Lists.{Shaped, rows_of}
use Rattle.theory.proofs.Tests.{or_first, equal_or_not}
use Rattle.theory.proofs.Signed.{≤ℤ-trans, ≤ℤ-antisymm, pos_le}
use Rattle.theory.proofs.QuotientRange.{quotient_at_most}
use Rattle.theory.proofs.Moved.{moved_to_nothing, moved_in_two}
use Rattle.theory.proofs.Attained.{Attained, moved_attains, moved_renumbered}
use Rattle.theory.proofs.Walk.{walk_within}
use Rattle.theory.proofs.Bound.{bound_is, bound_unique}
use Rattle.climbs.specs.Ranking.{ranking_by, rivals_in}
use Rattle.climbs.proofs.InLists.{in_rows, in_lists, ranked, ranked_in_lists, rank_of, order_ranked}
use Rattle.points.specs.Bounds.{IsOn}
use Rattle.points.proofs.Lowered.{Down, down_trans}
use Rattle.points.proofs.Bounding.{HoldsBounds}
use Rattle.points.proofs.AtPlace.{places_are}
use Rattle.points.proofs.Touched.{bound_at, TouchedAt, entry_attained, bound_attained}

-- the greatest 64-bit number
abbrev pub most : ℤ
most = pos 9223372036854775807

-- no bound is above it
bound_below : (rows : List Row) → AllWithin rows → (k i : ℕ) → k < length rows → bound rows k i ≤ℤ most
unfolding quotient slack points
bound_below rows within k i inside =
    let b = bound_is rows k i in
    let by_deadline : b.point ≤ (row_at rows k).D = walk_within (levels rows k) (length (levels rows k)) (row_at rows k).D b.point b.among_points in
    subst (λ (z : ℤ). z ≤ℤ most) b.its_quotient
    (≤ℤ-trans _ (pos b.point) most (quotient_at_most b.point (load rows k b.point) (times rows k i b.point)) (pos_le (omega (arith, within k inside))))

-- the allowances after the rows at the first j places by rank
pub record AllowedUpTo (cs ds ts : List ℕ) (j : ℕ) (allowed : List ℤ) : Type 0 where
  pub within : j ≤ length cs
  pub as_long : length allowed ≡ 24
  pub lowered : (i : ℕ) → i < length (rows_of cs ds ts)
      → LoweredTo (bound_at cs ds ts i) (λ p. (p < j) × TouchedAt cs ds ts i p) most (get_or allowed i (pos 0))

module _ (cs ds ts : List ℕ) (shaped : Shaped cs ds ts) where
  abbrev rows : List Row
  rows = rows_of cs ds ts

  -- before the first row
  pub none_allowed : AllowedUpTo cs ds ts 0 (replicate 24 most)
  none_allowed = record {
    within = omega arith;
    as_long = refl;
    lowered = λ i h.
        rw (get_or-replicate 24 i most (pos 0) (omega (arith, in_lists cs ds ts shaped h, shaped.no_25th)))
        (moved_to_nothing Down ≤ℤ_refl down_trans _ _ (λ p v. absurd (omega (arith, v.0))) most);
  }

  -- the row at one place more
  pub one_more_allowed : (order : List ℕ) → take (length ds) order ≡ ranking_by ds → {j : ℕ} {allowed : List ℤ} → AllowedUpTo cs ds ts j allowed → j < length cs
      → {best : List ℤ}
      → HoldsBounds rows (ranked cs ds ts shaped j) (rivals_in (ranking_by ds) ds (ranked cs ds ts shaped j)) best
      → (next : List ℤ)
      → length next ≡ length allowed
      → ((i : ℕ) → LoweredTo (λ x. get_or best x (pos 0)) (IsOn (take j order) (get_or order j 0) i) (get_or allowed i (pos 0)) (get_or next i (pos 0)))
      → AllowedUpTo cs ds ts (j + 1) next
  one_more_allowed order by_rank {j} {allowed} so_far more {best} holds next same lower = record {
    within = omega arith;
    as_long = same ∙ so_far.as_long;
    lowered = λ i h.
        moved_in_two Down ≤ℤ_refl down_trans _ _ (λ p. (p ≡ j) × TouchedAt cs ds ts i p) _
        (λ p v. (omega (arith, v.0), v.1)) (λ p v. (omega (arith, v.0), v.1)) (of_both i) _ _ _ (so_far.lowered i h) (by_row i h);
  }
    where
      of_both : (i p : ℕ) → (p < j + 1) × TouchedAt cs ds ts i p → ((p < j) × TouchedAt cs ds ts i p) ⊎ ((p ≡ j) × TouchedAt cs ds ts i p)
      of_both i p v = ⊎_elim (λ e. inr (e, v.1)) (λ d. inl (omega (arith, v.0), v.1)) (equal_or_not p j)

      by_row : (i : ℕ) → i < length rows → LoweredTo (bound_at cs ds ts i) (λ p. (p ≡ j) × TouchedAt cs ds ts i p) (get_or allowed i (pos 0)) (get_or next i (pos 0))
      by_row i h =
          moved_renumbered Down _ _ _ _
          (entry_attained cs ds ts shaped j holds i) (bound_attained cs ds ts shaped j holds i h) _ _
          (rw (places_are cs ds ts shaped order by_rank j more, order_ranked cs ds ts shaped order by_rank j more) at (lower i))

  -- after the last row
  pub all_allowed : AllWithin rows → {j : ℕ} {allowed : List ℤ} → AllowedUpTo cs ds ts j allowed → length cs ≤ j
      → (i : ℕ)
      → i < length cs
      → IsPointAllowance rows i (get_or allowed i (pos 0))
  all_allowed limits {j} {allowed} so_far last i h = record {
    row = ranked cs ds ts shaped smallest_at.at;
    in_set = in_rows cs ds ts shaped (ranked_in_lists cs ds ts shaped smallest_at.at (omega (arith, smallest_at.visited.0, so_far.within)));
    touched = smallest_at.visited.1;
    its_bound = subst (IsBound rows (ranked cs ds ts shaped smallest_at.at) i) smallest_at.gives (bound_is rows (ranked cs ds ts shaped smallest_at.at) i);
    smallest = λ x b in_set t is_bound.
        let v = visited_at x in_set t in
        subst (λ (z : ℤ). get_or allowed i (pos 0) ≤ℤ z) (v.gives ∙ bound_unique rows x i (bound rows x i) b (bound_is rows x i) is_bound)
        ((so_far.lowered i inside).past_visited v.at v.visited);
  }
    where
      inside : i < length rows
      inside = in_rows cs ds ts shaped h

      -- every row that is touched stands at a visited place
      visited_at : (x : ℕ) → x < length rows → T (touches rows i x) → Attained (bound_at cs ds ts i) (λ p. (p < j) × TouchedAt cs ds ts i p) (bound rows x i)
      visited_at x in_set t =
          let own = rank_of cs ds ts shaped x (in_lists cs ds ts shaped in_set) in
          record {
            at = own.place;
            visited = (omega (arith, own.inside), subst (λ (y : ℕ). T (touches rows i y)) (sym own.there) t);
            gives = ap (λ (y : ℕ). bound rows y i) own.there;
          }

      smallest_at : Attained (bound_at cs ds ts i) (λ p. (p < j) × TouchedAt cs ds ts i p) (get_or allowed i (pos 0))
      smallest_at =
          let v = visited_at i inside (or_first (eqb i i) (rival rows i i) (eqb_refl i)) in
          moved_attains Down (λ x y p q. ≤ℤ-antisymm x y q p) _ _ _ _ (so_far.lowered i inside) v.at v.visited
          (subst (λ (z : ℤ). z ≤ℤ most) (sym v.gives) (bound_below rows limits i i inside))
