-- The rows of a set by rank: of the rows before a place, one of the shortest period counts most in the load of the row at the place; where none stands before
-- it, the row itself does.
use mathlib.Core.Path.{◌≡◌, sym, subst}
use Rattle.std.proofs.Common.{min}
use Prim.Native.Nat.{ℕ, ◌+◌, ◌≤◌, ◌<◌}
use mathlib.Core.Bool.{Bool}
use mathlib.Core.Logic.{◌⊎◌, inl, inr}
use mathlib.Core.List.{List}
use native.Mathlib.Omega.{arith}
use borrow.Author.Count.{below_more}
use lib.Dec.{T, eqb, eqb→eq}
use lib.ListN.{length, get_or, take}
use Rattle.theory.specs.Row.{Row}
use Rattle.theory.specs.Rank.{rival}
use Rattle.theory.specs.Response.{ceil}
use Rattle.theory.specs.Points.{touches, times}
use Rattle.theory.specs.Lists.{rows_of}
use Rattle.theory.proofs.Tests.{or_cases, order_cases}
use Rattle.theory.proofs.Ceil.{ceil_longer, ceil_positive}
use Rattle.theory.proofs.Rank.{rival_irreflexive, above_transitive}
use Rattle.theory.proofs.Shortest.{CountsMost}
use Rattle.climbs.proofs.ByRank.{above_of_lists}
use Rattle.climbs.proofs.InLists.{in_lists, ranked, ranked_above, Ranked, rank_of}
use Rattle.climbs.specs.Ranking.{StandByRank}
use Rattle.climbs.proofs.StandByRank.{limits_by_rank, period_by_rank}
use Rattle.raises.proofs.RaisedRow.{Counted, once_of_itself, jobs_of_one_before, counts_before, counts_itself}

-- the shortest of the first j periods; a million where there are none
pub data Shortest (periods : List ℕ) (j period : ℕ) : Type 0 where
  none_before : j ≡ 0 → period ≡ 1_000_000 → Shortest periods j period
  of_place : (q : ℕ) → q < j → get_or periods q 0 ≡ period → ((p : ℕ) → p < j → period ≤ get_or periods p 0) → Shortest periods j period

-- the shortest with one more
pub shortest_more : {periods : List ℕ} {j period : ℕ} → Shortest periods j period → get_or periods j 0 ≤ 1_000_000 → Shortest periods (j + 1) (min period (get_or periods j 0))
shortest_more {periods} {j} {period} (none_before none million) by_million =
    of_place j (omega arith) (omega arith) (below_more _ _ (λ p h. absurd (omega arith)) (omega arith))
shortest_more {periods} {j} {period} (of_place q before there each) by_million = go (order_cases period (get_or periods j 0))
  where
    each_more : (p : ℕ) → p < j + 1 → min period (get_or periods j 0) ≤ get_or periods p 0
    each_more = below_more _ _ (λ p h. omega (arith, each p h)) (omega arith)

    go : (period < get_or periods j 0) ⊎ (period ≡ get_or periods j 0) ⊎ (get_or periods j 0 < period) → Shortest periods (j + 1) (min period (get_or periods j 0))
    go (inl less) = of_place q (omega arith) (omega arith) each_more
    go (inr (inl e)) = of_place q (omega arith) (omega arith) each_more
    go (inr (inr more)) = of_place j (omega arith) (omega arith) each_more

module _ {cs ds ts executions deadlines periods : List ℕ} (stand : StandByRank cs ds ts executions deadlines periods) where
  -- the rows that the lists are
  abbrev rows : List Row
  rows = rows_of cs ds ts

  -- the row at a place by rank
  abbrev at : ℕ → ℕ
  at = ranked cs ds ts stand.shaped

  -- the shortest period is one of a row, or a million
  pub shortest_within : {j period : ℕ} → j ≤ length cs → Shortest periods j period → (1 ≤ period) × (period ≤ 1_000_000)
  shortest_within places (none_before none million) = (omega arith, omega arith)
  shortest_within places (of_place q before there each) =
      let limits = limits_by_rank stand q (omega arith) in
      let same = period_by_rank stand q (omega arith) in
      (omega (arith, limits, same), omega (arith, limits, same))

  module _ (j : ℕ) (inside : j < length cs) where
    -- a row by rank is a rival of each behind it
    rival_by_rank : (p q : ℕ) → p < q → q < length cs → T (rival rows (at p) (at q))
    rival_by_rank p q h l =
        subst (λ (relation : ℕ → ℕ → Bool). T (relation (at p) (at q))) (sym (above_of_lists cs ds ts stand.shaped.as_many_deadlines stand.shaped.as_many_periods))
        (ranked_above cs ds ts stand.shaped p q h l)

    -- and of no other
    rival_before : (p : ℕ) → p < length cs → T (rival rows (at p) (at j)) → p < j
    rival_before p l above = go (order_cases p j)
      where
        go : (p < j) ⊎ (p ≡ j) ⊎ (j < p) → p < j
        go (inl h) = h
        go (inr (inl e)) = absurd (rival_irreflexive rows (at j) (subst (λ (q : ℕ). T (rival rows (at q) (at j))) e above))
        go (inr (inr h)) = absurd (rival_irreflexive rows (at j) (above_transitive rows (at j) (at p) (at j) (rival_by_rank j p h l) above))

    -- one before it counts once for each job
    jobs_counted : (q t : ℕ) → q < j → times rows (at j) (at q) t ≡ ceil t (get_or periods q 0)
    jobs_counted q t h = jobs_of_one_before cs ds ts stand.shaped executions periods stand.by_C stand.by_T j inside q t h

    -- so a number of at least 1 and of the jobs of each before it bounds how often any row counts
    counts_at_most : (t limit : ℕ) → 1 ≤ limit → ((p : ℕ) → p < j → ceil t (get_or periods p 0) ≤ limit) → (i : ℕ) → i < length rows → T (touches rows i (at j)) → times rows (at j) i t ≤ limit
    counts_at_most t limit some jobs i in_set touched = go (or_cases (eqb (at j) i) (rival rows i (at j)) touched)
      where
        at_place : (s : Ranked cs ds ts stand.shaped i) → T (rival rows (at s.place) (at j)) → times rows (at j) (at s.place) t ≤ limit
        at_place s above =
            let before = rival_before s.place s.inside above in
            omega (arith, jobs_counted s.place t before, jobs s.place before)

        go : T (eqb (at j) i) ⊎ T (rival rows i (at j)) → times rows (at j) i t ≤ limit
        go (inl e) = subst (λ (x : ℕ). times rows (at j) x t ≤ limit) (eqb→eq (at j) i e) (omega (arith, once_of_itself rows (at j) t))
        go (inr above) =
            let s = rank_of cs ds ts stand.shaped i (in_lists cs ds ts stand.shaped in_set) in
            subst (λ (x : ℕ). times rows (at j) x t ≤ limit) s.there (at_place s (subst (λ (x : ℕ). T (rival rows x (at j))) (sym s.there) above))

    -- the row that counts most in the load of the row at the place, and its period
    pub record MostCounted (period : ℕ) : Type 0 where
      pub row : ℕ
      pub counts : CountsMost rows (at j) row
      pub counted : Counted rows (at j) row (get_or executions j 0) (take j executions) (take j periods) period

    -- it is one of the shortest period before it, or itself
    pub most_counted : {period : ℕ} → Shortest periods j period → MostCounted period
    most_counted (none_before none million) =
        let itself = counts_itself cs ds ts stand.shaped executions periods stand.by_C stand.by_T j inside in
        record {
          row = at j;
          counts = record {
            in_set = itself.in_set;
            touched = itself.touched;
            most = λ i t in_set touched from_one. rw (once_of_itself rows (at j) t) (counts_at_most t 1 (omega arith) (λ p h. absurd (omega arith)) i in_set touched);
          };
          counted = rw million itself;
        }
    most_counted (of_place q before there each) =
        let earlier = counts_before cs ds ts stand.shaped executions periods stand.by_C stand.by_T j inside q before in
        let positive : 1 ≤ get_or periods q 0 = omega (arith, limits_by_rank stand q (omega arith), period_by_rank stand q (omega arith)) in
        record {
          row = at q;
          counts = record {
            in_set = earlier.other_in_set;
            touched = earlier.touched;
            most = λ i t in_set touched from_one.
                rw (jobs_counted q t before)
                (counts_at_most t (ceil t (get_or periods q 0)) (ceil_positive t positive from_one) (λ p h. ceil_longer t positive (omega (arith, each p h))) i in_set touched);
          };
          counted = rw (← there) earlier;
        }
