-- Rank on a list of deadlines is rank among the rows that three lists are. The places by rank are all places, each once, each above those behind it, and
-- the rivals of a row among them are the levels of its walk.
use mathlib.Core.Path.{◌≡◌, refl, sym, ◌∙◌, ap, ap₂, subst, fun_ext}
use Prim.Native.Nat.{ℕ, ◌≤◌, ◌<◌, zero-le}
use mathlib.Core.Bool.{Bool}
use mathlib.Core.Logic.{◌⊎◌}
use mathlib.Core.List.{List, map, Memᴰ}
use native.Mathlib.Omega.{arith}
use native.Mathlib.Nat.{le_trans, le_of_eq}
use lib.Dec.{T}
use lib.ListN.{length, get_or}
use Rattle.theory.specs.Row.{Row, row_at}
use Rattle.theory.specs.Gather.{less_or_tied, up_from, keep, sort, All}
use Rattle.theory.specs.Rank.{above, rivals, levels}
use Rattle.theory.specs.Lists.{rows_of}
use Rattle.theory.proofs.Each.{all_map, all_sort, all_up_from, all_kept}
use Rattle.theory.proofs.Member.{mem_sort, mem_up_from, length_sort, length_up_from}
use Rattle.theory.proofs.Order.{Ordered, ordered_distinct, up_from_ascending, sort_ordered}
use Rattle.theory.proofs.Kept.{length_keep_le, keep_sort}
use Rattle.theory.proofs.RowsOf.{rows_of_length, row_of_lists}
use Rattle.theory.proofs.Rank.{above_transitive, above_connected, rival_irreflexive}
use Rattle.climbs.specs.Ranking.{above_by, ranking_by, rivals_in}

-- rank among the rows is rank by their deadlines
pub above_of_lists : (cs ds ts : List ℕ) → length ds ≡ length cs → length ts ≡ length cs → above (rows_of cs ds ts) ≡ above_by ds
above_of_lists cs ds ts d t = fun_ext (λ h. fun_ext (λ k. ap₂ (λ (a b : ℕ). less_or_tied a b h k) (deadline h) (deadline k)))
  where
    deadline : (h : ℕ) → (row_at (rows_of cs ds ts) h).D ≡ get_or ds h 0
    deadline h = ap (λ (row : Row). row.D) (row_of_lists cs ds ts d t h)

module _ (ds : List ℕ) where
  -- what is so of rank among any rows is so of rank by deadlines
  by_rows : (P : (ℕ → ℕ → Bool) → Type 0) → ((rows : List Row) → P (above rows)) → P (above_by ds)
  by_rows P among-rows = subst P (above_of_lists ds ds ds refl refl) (among-rows (rows_of ds ds ds))

  -- a row above a row that ranks above z ranks above z
  pub above_by_transitive : (x y z : ℕ) → T (above_by ds x y) → T (above_by ds y z) → T (above_by ds x z)
  above_by_transitive = by_rows (λ above_of. (x y z : ℕ) → T (above_of x y) → T (above_of y z) → T (above_of x z)) above_transitive

  -- of two different rows one ranks above the other
  pub above_by_connected : (x y : ℕ) → (x ≡ y → ⊥) → T (above_by ds x y) ⊎ T (above_by ds y x)
  above_by_connected = by_rows (λ above_of. (x y : ℕ) → (x ≡ y → ⊥) → T (above_of x y) ⊎ T (above_of y x)) above_connected

  -- no row ranks above itself
  pub above_by_irreflexive : (x : ℕ) → T (above_by ds x x) → ⊥
  above_by_irreflexive = by_rows (λ above_of. (x : ℕ) → T (above_of x x) → ⊥) rival_irreflexive

  -- each place by rank is a row's
  pub ranking_inside : All (λ h. h < length ds) (ranking_by ds)
  unfolding ranking_by
  ranking_inside =
      all_sort (λ h. h < length ds) (above_by ds) (up_from 0 (length ds)) (all_map (up_from 0 (length ds)) (λ h b. omega arith) (all_up_from 0 (length ds)))

  -- each row's place is among them
  pub mem_ranking : (h : ℕ) → h < length ds → Memᴰ h (ranking_by ds)
  unfolding ranking_by
  mem_ranking h inside = mem_sort (above_by ds) (mem_up_from 0 (length ds) h zero-le (omega arith))

  -- they are as many as the rows
  pub length_ranking : length (ranking_by ds) ≡ length ds
  unfolding ranking_by
  length_ranking = length_sort (above_by ds) (up_from 0 (length ds)) ∙ length_up_from 0 (length ds)

  -- each ranks above those behind it
  pub ranking_ordered : Ordered (λ x y. T (above_by ds x y)) (ranking_by ds)
  unfolding ranking_by
  ranking_ordered =
      sort_ordered (above_by ds) above_by_transitive (λ x y l. above_by_connected x y (λ e. omega arith)) (up_from 0 (length ds)) (up_from_ascending 0 (length ds))

  -- none stands there twice
  pub ranking_distinct : Ordered (λ x y. x ≡ y → ⊥) (ranking_by ds)
  ranking_distinct = ordered_distinct (λ x y. T (above_by ds x y)) (ranking_by ds) above_by_irreflexive ranking_ordered

  -- each rival is a row's place, and ranks above row k
  pub all_rivals_in : (k : ℕ) → All (λ h. (h < length ds) × T (above_by ds h k)) (rivals_in (ranking_by ds) ds k)
  unfolding rivals_in
  all_rivals_in k = all_kept (λ h. h < length ds) (λ h. above_by ds h k) (ranking_by ds) ranking_inside

  -- they are no more than the rows
  pub few_rivals_in : (k : ℕ) → length (rivals_in (ranking_by ds) ds k) ≤ length ds
  unfolding rivals_in
  few_rivals_in k = le_trans (length_keep_le (λ h. above_by ds h k) (ranking_by ds)) (le_of_eq length_ranking)

module _ (cs ds ts : List ℕ) (as_many_deadlines : length ds ≡ length cs) (as_many_periods : length ts ≡ length cs) where
  -- the rows that the lists are
  abbrev rows : List Row
  rows = rows_of cs ds ts

  -- the rivals of row k taken from the places by rank are its rivals in the order of rank
  pub rivals_by_rank : (k : ℕ) → rivals_in (ranking_by ds) ds k ≡ sort (above rows) (rivals rows k)
  unfolding rivals_in ranking_by rivals
  rivals_by_rank k =
      keep_sort (λ h. above_by ds h k) (above_by ds) (above_by_transitive ds) (λ x y l. above_by_connected ds x y (λ e. omega arith)) (up_from 0 (length ds)) (up_from_ascending 0 (length ds))
      ∙ ap₂
      (λ (precedes : ℕ → ℕ → Bool) (n : ℕ). sort precedes (keep (λ h. precedes h k) (up_from 0 n)))
      (sym (above_of_lists cs ds ts as_many_deadlines as_many_periods))
      (as_many_deadlines ∙ sym (rows_of_length cs ds ts as_many_deadlines as_many_periods))

  -- and as rows: the levels of its walk
  pub levels_of_lists : (k : ℕ) → levels rows k ≡ map (row_at rows) (rivals_in (ranking_by ds) ds k)
  unfolding levels
  levels_of_lists k = ap (map (row_at rows)) (sym (rivals_by_rank k))
