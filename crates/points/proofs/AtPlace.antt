-- The row at a place of rows by rank: the rows before it are its rivals, and the best quotients of the walk over them are its bounds.
use mathlib.Core.Path.{◌≡◌, sym, ap, ◌∙◌, subst}
use Prim.Native.Nat.{ℕ, zero, suc, ◌≤◌, ◌<◌}
use mathlib.Core.List.{List, [], ◌∷◌}
use native.Mathlib.Omega.{arith}
use lib.IntN.{ℤ}
use lib.ListN.{length, get_or, take}
use lib.Seq.{take-take}
use Rattle.theory.specs.Gather.{All}
use Rattle.theory.specs.Lists.{Shaped}
use Rattle.theory.proofs.Each.{all_map}
use Rattle.demands.specs.declared.ranked.RankedRow.{RankedRow}
use Rattle.rows.specs.Values.{rows_in}
use Rattle.rows.specs.declared.Rows.{Rows}
use Rattle.climbs.specs.Ranking.{ranking_by, rivals_in}
use Rattle.climbs.specs.Placed.{AreByRank, IsRowAt}
use Rattle.climbs.proofs.ByRank.{ranking_inside}
use Rattle.climbs.proofs.Load.{rival_entries}
use Rattle.climbs.proofs.InLists.{ranked, ranked_in_lists}
use Rattle.climbs.proofs.AtRank.{rivals_at_rank, before_are_rivals}
use Rattle.climbs.proofs.StandByRank.{deadline_by_rank, execution_by_rank, limits_by_rank}
use Rattle.points.specs.Bounds.{BestOfWalkIn}
use Rattle.points.proofs.Bounding.{HoldsBounds, bounds_held}

-- what holds of each holds of each of the first
all_first : (P : ℕ → Type 0) (xs : List ℕ) (m : ℕ) → All P xs → All P (take m xs)
all_first P xs zero all = tt
all_first P [] (suc m) all = tt
all_first P (x ∷ xs) (suc m) all = (all.0, all_first P xs m all.1)

module _ (cs ds ts : List ℕ) (shaped : Shaped cs ds ts) (order : List ℕ) (by_rank : take (length ds) order ≡ ranking_by ds) where
  -- the first places are the first by rank
  first_by_rank : (m : ℕ) → m ≤ length cs → take m order ≡ take m (ranking_by ds)
  first_by_rank m h = sym (take-take m (length ds) order (omega (arith, shaped.as_many_deadlines))) ∙ ap (take m) by_rank

  -- each below a number that is no less than the rows are
  pub places_below : (m : ℕ) → m ≤ length cs → (n : ℕ) → length cs ≤ n → All (λ h. h < n) (take m order)
  places_below m h n enough =
      subst (All (λ x. x < n)) (sym (first_by_rank m h))
      (all_first (λ x. x < n) (ranking_by ds) m (all_map (ranking_by ds) (λ x l. omega (arith, shaped.as_many_deadlines)) (ranking_inside ds)))

  module _ (j : ℕ) (inside : j < length cs) where
    -- the places before are the rivals'
    pub places_are : take j order ≡ rivals_in (ranking_by ds) ds (ranked cs ds ts shaped j)
    places_are = first_by_rank j (omega arith) ∙ sym (rivals_at_rank cs ds ts shaped j inside)

module _ (rows by_rank : Rows) (stand : AreByRank rows by_rank) (j : ℕ) (inside : j < length rows.c.now) {row : RankedRow} (here : IsRowAt by_rank j row) where
  -- the place of the row in the set
  abbrev k : ℕ
  k = get_or (ranking_by rows.d.now) j 0

  -- its deadline is not before the first tick
  pub some_limit : 1 ≤ row.limit
  some_limit = omega (arith, here.limit, deadline_by_rank stand j inside, limits_by_rank stand j inside)

  -- what stands above it are its rivals' entries
  executions_of_rivals : row.c.now ≡ rival_entries rows.c.now rows.d.now k
  executions_of_rivals = here.executions_above ∙ before_are_rivals rows.c.now rows.d.now rows.t.now stand.shaped j inside rows.c.now by_rank.c.now stand.by_C

  periods_of_rivals : row.t.now ≡ rival_entries rows.t.now rows.d.now k
  periods_of_rivals = here.periods_above ∙ before_are_rivals rows.c.now rows.d.now rows.t.now stand.shaped j inside rows.t.now by_rank.t.now stand.by_T

  -- the best quotients of its walk are the row's bounds
  pub bounds_at_place : {best : List ℤ} → BestOfWalkIn row best → HoldsBounds (rows_in rows) k (rivals_in (ranking_by rows.d.now) rows.d.now k) best
  bounds_at_place {best} walked =
      bounds_held rows.c.now rows.d.now rows.t.now stand.shaped stand.within k (ranked_in_lists rows.c.now rows.d.now rows.t.now stand.shaped j inside)
      (rw (executions_of_rivals, periods_of_rivals) at row.small) best
      (rw (here.limit, deadline_by_rank stand j inside, here.own, execution_by_rank stand j inside, executions_of_rivals, periods_of_rivals) at walked)
