-- Rank is a strict order, and what the levels of a row's walk have to do with its rivals. Of the relation `rival` the theory uses three laws:
-- it looks at deadlines and places only, it holds where one row ranks above another, and the rivals of a row ranked above are among its own.
use mathlib.Core.Path.{◌≡◌, sym, ap, subst}
use Prim.Native.Nat.{ℕ, suc, ◌+◌, ◌≤◌, ◌<◌}
use mathlib.Core.Logic.{◌↔◌, ◌⊎◌}
use mathlib.Core.List.{List, ◌∷◌, ◌++◌, map, Memᴰ}
use native.Mathlib.Omega.{arith}
use native.Mathlib.Nat.{le_of_eq, le_of_lt, le_refl, le_trans}
use lib.Dec.{T}
use lib.ListN.{length, get_or, take, drop, length-map}
use lib.Seq.{split_at, take-length}
use Rattle.theory.specs.Row.{Row, row_at}
use Rattle.theory.specs.Gather.{sum, sort, All}
use Rattle.theory.specs.Rank.{places, above, rival, rivals, levels}
use Rattle.theory.specs.Response.{demand, load, own}
use Rattle.theory.proofs.Each.{all_map, all_kept, true_of}
use Rattle.theory.proofs.Member.{all_at, mem_keep, mem_of_sort, mem_get_or}
use Rattle.theory.proofs.Places.{places_inside, mem_places}
use Rattle.theory.proofs.Sum.{where_passes, where_passes_true, sum_append, sum_sort, sum_keep_le, sum_keep, sum_eq}
use Rattle.theory.proofs.Order.{Ordered, up_from_ascending, ordered_keep, ordered_append_split, sort_ordered}
use Rattle.theory.proofs.Tests.{less_or_tied_lem, passes_less_or_tied, tied_asymmetric, tied_connected, tied_chain}
use Rattle.theory.proofs.Demand.{ask, level_demand, demand_of_first, row_of_place}

module _ (rows : List Row) where
  -- rank in words: the smaller D ranks higher; of equal D, the earlier row
  pub above_exactly : (h k : ℕ) → T (above rows h k) ↔ (((row_at rows h).D < (row_at rows k).D) ⊎ (((row_at rows h).D ≡ (row_at rows k).D) × (h < k)))
  above_exactly h k = (less_or_tied_lem (row_at rows h).D (row_at rows k).D h k, passes_less_or_tied (row_at rows h).D (row_at rows k).D h k)

  -- a row above a row that ranks above z ranks above z
  pub above_transitive : (x y z : ℕ) → T (above rows x y) → T (above rows y z) → T (above rows x z)
  above_transitive x y z s t = (above_exactly x z).1 (tied_chain ((above_exactly x y).0 s) ((above_exactly y z).0 t) (omega arith) (omega arith) (omega arith))

  -- of two different rows one ranks above the other
  pub above_connected : (x y : ℕ) → (x ≡ y → ⊥) → T (above rows x y) ⊎ T (above rows y x)
  above_connected x y = tied_connected (row_at rows x).D (row_at rows y).D x y

  -- a row ranked above is a rival
  pub above_rival : (h k : ℕ) → T (above rows h k) → T (rival rows h k)
  above_rival h k t = t

  -- no row is its own rival
  pub rival_irreflexive : (x : ℕ) → T (rival rows x x) → ⊥
  rival_irreflexive x t = tied_asymmetric (row_at rows x).D (row_at rows x).D x x t t

  -- a rival of a row ranked above k is a rival of k
  pub rival_above : (x h k : ℕ) → T (rival rows x h) → T (above rows h k) → T (rival rows x k)
  rival_above = above_transitive

  -- a row of the set that is a rival is in the list of rivals, and the other way round
  pub mem_rivals : (h k : ℕ) → h < length rows → T (rival rows h k) → Memᴰ h (rivals rows k)
  unfolding rivals
  mem_rivals h k l t = mem_keep (λ x. rival rows x k) (mem_places rows h l) t

  pub all_rivals : (k : ℕ) → All (λ h. (h < length rows) × T (rival rows h k)) (rivals rows k)
  unfolding rivals
  all_rivals k = all_kept (λ h. h < length rows) (λ x. rival rows x k) (places rows) (places_inside rows)

  -- the rivals stand in table order
  pub rivals_ascending : (k : ℕ) → Ordered ◌<◌ (rivals rows k)
  unfolding rivals
  rivals_ascending k = ordered_keep ◌<◌ (λ h. rival rows h k) (places rows) (up_from_ascending 0 (length rows))

  -- the rivals of row k by rank
  abbrev pub ranked : ℕ → List ℕ
  ranked k = sort (above rows) (rivals rows k)

  pub ranked_ordered : (k : ℕ) → Ordered (λ x y. T (above rows x y)) (ranked k)
  ranked_ordered k = sort_ordered (above rows) above_transitive (λ x y h. above_connected x y (λ e. omega arith)) (rivals rows k) (rivals_ascending k)

  -- the load of row k, by the levels of its walk
  pub load_by_levels : (k t : ℕ) → load rows k t ≡ own (row_at rows k) + level_demand (levels rows k) (length (levels rows k)) t
  unfolding load levels demand
  load_by_levels k t =
      omega (
        arith,
        ap (λ (n : ℕ). level_demand (map (row_at rows) (ranked k)) n t) (length-map (ranked k) (row_at rows)),
        demand_of_first rows (ranked k) (length (ranked k)) t (le_refl (length (ranked k))),
        ap (λ (hs : List ℕ). demand rows hs t) (take-length (ranked k)),
        sum_sort (λ h. ask (row_at rows h) t) (above rows) (rivals rows k),
      )

  -- rows ranked above h ask for no more than its rivals do, whatever walk they stand in
  demand_above : (k h t : ℕ) (before after : List ℕ) → ranked k ≡ before ++ (h ∷ after) → demand rows before t ≤ demand rows (rivals rows h) t
  unfolding demand rivals
  demand_above k h t before after split =
      omega (
        arith,
        sum_eq term passed before (all_map before (λ x a. sym (where_passes_true (λ y. rival rows y h) term x (true_of (rival rows x h) (above_rival x h a.0)))) above_h),
        sum_append passed before (h ∷ after),
        ap (sum passed) split,
        sum_sort passed (above rows) (rivals rows k),
        sum_keep_le (λ y. rival rows y k) passed (places rows),
        sum_keep (λ y. rival rows y h) term (places rows),
      )
    where
      term : ℕ → ℕ
      term x = ask (row_at rows x) t

      passed : ℕ → ℕ
      passed = where_passes (λ y. rival rows y h) term

      above_h : All (λ x. All (λ y. T (above rows x y)) (h ∷ after)) before
      above_h = (ordered_append_split (λ x y. T (above rows x y)) before (h ∷ after) (subst (Ordered (λ x y. T (above rows x y))) split (ranked_ordered k))).between

  -- the row of level j + 1 of row k's walk: a rival of k, whose rivals ask for at least what the levels before it do
  pub record Level (k j : ℕ) : Type 0 where
    pub row : ℕ
    pub in_set : row < length rows
    pub is_rival : T (rival rows row k)
    pub its_row : row_at (levels rows k) j ≡ row_at rows row
    pub before_ask : (t : ℕ) → level_demand (levels rows k) j t ≤ demand rows (rivals rows row) t

  pub level : (k j : ℕ) → j < length (levels rows k) → Level k j
  unfolding levels
  level k j h = record {
    row = x;
    in_set = of_rivals.0;
    is_rival = of_rivals.1;
    its_row = row_of_place rows (ranked k) j inside;
    before_ask = λ t. le_trans (le_of_eq (demand_of_first rows (ranked k) j t (le_of_lt inside))) (demand_above k x t (take j (ranked k)) (drop (suc j) (ranked k)) (split_at (ranked k) j 0 inside));
  }
    where
      inside : j < length (ranked k)
      inside = subst (λ (n : ℕ). j < n) (length-map (ranked k) (row_at rows)) h

      x : ℕ
      x = get_or (ranked k) j 0

      of_rivals : (x < length rows) × T (rival rows x k)
      of_rivals = all_at (λ y. (y < length rows) × T (rival rows y k)) (mem_of_sort (above rows) (rivals rows k) (mem_get_or (ranked k) j inside)) (all_rivals k)
