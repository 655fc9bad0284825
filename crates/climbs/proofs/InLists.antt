-- A set of rows in three lists: the numbers of a row, and the row at a place by rank.
use mathlib.Core.Path.{◌≡◌, sym, ap, ◌∙◌, subst}
use Prim.Native.Nat.{ℕ, ◌<◌}
use mathlib.Core.Bool.{Bool}
use mathlib.Core.Logic.{⊎_elim}
use mathlib.Core.List.{List}
use native.Mathlib.Omega.{arith}
use lib.Dec.{T}
use lib.ListN.{length, get_or, take}
use lib.Seq.{get_or-take, length-take-le}
use Rattle.theory.specs.Row.{Row, row_at}
use Rattle.theory.specs.Rank.{above}
use Rattle.theory.specs.Lists.{rows_of, Shaped, ForEach}
use Rattle.theory.proofs.RowsOf.{rows_of_length, row_of_lists}
use Rattle.theory.proofs.Tests.{order_cases}
use Rattle.theory.proofs.At.{StandsIn, stands_in, each_at, ordered_at}
use Rattle.climbs.specs.Ranking.{above_by, ranking_by}
use Rattle.climbs.proofs.ByRank.{above_of_lists, above_by_transitive, above_by_irreflexive, ranking_inside, mem_ranking, length_ranking, ranking_ordered}

module _ (cs ds ts : List ℕ) (shaped : Shaped cs ds ts) where
  -- the numbers of a row are the lists'
  pub deadline_of : (k : ℕ) → (row_at (rows_of cs ds ts) k).D ≡ get_or ds k 0
  deadline_of k = ap (λ (r : Row). r.D) (row_of_lists cs ds ts shaped.as_many_deadlines shaped.as_many_periods k)

  pub execution_of : (k : ℕ) → (row_at (rows_of cs ds ts) k).C ≡ get_or cs k 0
  execution_of k = ap (λ (r : Row). r.C) (row_of_lists cs ds ts shaped.as_many_deadlines shaped.as_many_periods k)

  pub period_of : (k : ℕ) → (row_at (rows_of cs ds ts) k).T ≡ get_or ts k 0
  period_of k = ap (λ (r : Row). r.T) (row_of_lists cs ds ts shaped.as_many_deadlines shaped.as_many_periods k)

  pub in_rows : {k : ℕ} → k < length cs → k < length (rows_of cs ds ts)
  in_rows h = omega (arith, rows_of_length cs ds ts shaped.as_many_deadlines shaped.as_many_periods)

  pub in_lists : {k : ℕ} → k < length (rows_of cs ds ts) → k < length cs
  in_lists h = omega (arith, rows_of_length cs ds ts shaped.as_many_deadlines shaped.as_many_periods)

  -- the front of an array of 24 as one number for each row
  pub front_for_each : (Right : ℕ → ℕ → Type 0) (numbers : List ℕ) → length numbers ≡ 24 → ((k : ℕ) → k < length cs → Right k (get_or numbers k 0)) → ForEach (rows_of cs ds ts) Right (take (length cs) numbers)
  front_for_each Right numbers long right = record {
    one_each = length-take-le (length cs) numbers (omega (arith, long, shaped.no_25th)) ∙ sym (rows_of_length cs ds ts shaped.as_many_deadlines shaped.as_many_periods);
    right = λ k h. subst (Right k) (sym (get_or-take (length cs) numbers k 0 (in_lists h))) (right k (in_lists h));
  }

  -- the row at a place by rank
  abbrev pub ranked : ℕ → ℕ
  ranked p = get_or (ranking_by ds) p 0

  pub ranked_in_lists : (p : ℕ) → p < length cs → ranked p < length cs
  ranked_in_lists p h =
      let inside : ranked p < length ds = each_at (λ x. x < length ds) (ranking_by ds) (ranking_inside ds) p (omega (arith, length_ranking ds, shaped.as_many_deadlines)) in
      omega (arith, shaped.as_many_deadlines)

  -- an earlier one ranks above a later one
  pub ranked_above : (p q : ℕ) → p < q → q < length cs → T (above_by ds (ranked p) (ranked q))
  ranked_above p q h l = ordered_at (λ x y. T (above_by ds x y)) (ranking_by ds) (ranking_ordered ds) p q h (omega (arith, length_ranking ds, shaped.as_many_deadlines))

  -- and one that ranks above another is an earlier one
  pub ranked_before : (p q : ℕ) → p < length cs → T (above_by ds (ranked p) (ranked q)) → p < q
  ranked_before p q h above =
      ⊎_elim (λ b. b)
      (⊎_elim
      (λ e. absurd (above_by_irreflexive ds (ranked q) (subst (λ (x : ℕ). T (above_by ds (ranked x) (ranked q))) e above)))
      (λ b. absurd (above_by_irreflexive ds (ranked q) (above_by_transitive ds (ranked q) (ranked p) (ranked q) (ranked_above q p b h) above))))
      (order_cases p q)

  -- the same of the rows
  pub above_before : (p q : ℕ) → p < length cs → T (above (rows_of cs ds ts) (ranked p) (ranked q)) → p < q
  above_before p q h t =
      ranked_before p q h (subst (λ (relation : ℕ → ℕ → Bool). T (relation (ranked p) (ranked q))) (above_of_lists cs ds ts shaped.as_many_deadlines shaped.as_many_periods) t)

  -- no row stands at two places
  pub ranked_once : (p q : ℕ) → p < length cs → q < length cs → ranked p ≡ ranked q → p ≡ q
  ranked_once p q h l same =
      ⊎_elim (λ b. absurd (above_by_irreflexive ds (ranked q) (subst (λ (x : ℕ). T (above_by ds x (ranked q))) same (ranked_above p q b l))))
      (⊎_elim (λ e. e) (λ b. absurd (above_by_irreflexive ds (ranked q) (subst (λ (x : ℕ). T (above_by ds (ranked q) x)) same (ranked_above q p b h)))))
      (order_cases p q)

  -- every row stands at a place by rank
  pub record Ranked (k : ℕ) : Type 0 where
    pub place : ℕ
    pub inside : place < length cs
    pub there : ranked place ≡ k

  pub rank_of : (k : ℕ) → k < length cs → Ranked k
  rank_of k h =
      let stands : StandsIn (ranking_by ds) k = stands_in (mem_ranking ds k (omega (arith, shaped.as_many_deadlines))) in
      record { place = stands.place; inside = omega (arith, stands.inside, length_ranking ds, shaped.as_many_deadlines); there = stands.there }

  -- an order that begins with the places by rank has them at its places
  pub order_ranked : (order : List ℕ) → take (length ds) order ≡ ranking_by ds → (j : ℕ) → j < length cs → get_or order j 0 ≡ ranked j
  order_ranked order e j h = sym (get_or-take (length ds) order j 0 (omega (arith, shaped.as_many_deadlines))) ∙ ap (λ (xs : List ℕ). get_or xs j 0) e

  pub order_in_lists : (order : List ℕ) → take (length ds) order ≡ ranking_by ds → (j : ℕ) → j < length cs → get_or order j 0 < length cs
  order_in_lists order e j h = subst (λ (x : ℕ). x < length cs) (sym (order_ranked order e j h)) (ranked_in_lists j h)
