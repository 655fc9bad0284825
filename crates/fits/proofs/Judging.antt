-- The rows judged by rank, from the highest down, each with the row raised that counts most in its load: what holds after j of them, how it goes on,
-- stops at a miss and ends.
use mathlib.Core.Path.{◌≡◌, subst}
use Rattle.std.proofs.Common.{min}
use Prim.Native.Nat.{ℕ, suc, ◌+◌, ◌≤◌, ◌<◌}
use mathlib.Core.Logic.{◌⊎◌, inl, inr}
use mathlib.Core.List.{List}
use native.Mathlib.Nat.{mul-le-mul_left, mul-one}
use native.Mathlib.Omega.{arith}
use borrow.Author.Count.{below_more}
use lib.ListN.{length, get_or, take}
use Rattle.theory.specs.Row.{Row}
use Rattle.theory.specs.Response.{Meets, AllMeet, responds, misses, IsOutcome}
use Rattle.theory.specs.Allowance.{raised, IsCoreAllowance}
use Rattle.theory.specs.Climb.{RoomAt, LeastRoom}
use Rattle.theory.specs.Lists.{rows_of}
use Rattle.theory.proofs.Tests.{order_cases}
use Rattle.theory.proofs.Ceil.{ceil_positive}
use Rattle.theory.proofs.Response.{climbed_outcome}
use Rattle.theory.proofs.Raise.{raised_in_set}
use Rattle.theory.proofs.Verdict.{AllSteady, within_steady}
use Rattle.theory.proofs.Allowance.{raised_steady}
use Rattle.theory.proofs.Trial.{meets_with_less}
use Rattle.theory.proofs.Shortest.{CountsMost, MeetsWithMost, core_allowance_by_most}
use Rattle.demands.specs.Levels.{load_of}
use Rattle.climbs.proofs.InLists.{in_rows, in_lists, deadline_of, ranked, ranked_in_lists, rank_of}
use Rattle.climbs.specs.Ranking.{StandByRank}
use Rattle.climbs.proofs.StandByRank.{Following, following_more, limits_by_rank, execution_by_rank, period_by_rank, load_here}
use Rattle.demands.specs.Loads.{raised_load}
use Rattle.raises.specs.Raise.{RoomBy, LargestRaise}
use Rattle.raises.proofs.RaisedRow.{raised_meets_has_room, raised_with_room_meets}
use Rattle.fits.proofs.Counting.{Shortest, shortest_more, shortest_within, MostCounted, most_counted}

-- a raise with which there is room leaves room for the row's own time
own_and_raise : (own : ℕ) (cs ts : List ℕ) (period limit a : ℕ) → 1 ≤ period → RoomBy (raised_load own cs ts period a) limit → own + a ≤ limit
own_and_raise own cs ts period limit a positive by =
    omega (arith, by.by_limit, by.room.enough, mul-le-mul_left a (ceil_positive by.time positive by.room.from_one), mul-one a)

module _ {cs ds ts executions deadlines periods : List ℕ} (stand : StandByRank cs ds ts executions deadlines periods) where
  -- the rows that the lists are
  abbrev rows : List Row
  rows = rows_of cs ds ts

  -- the row at a place by rank
  abbrev at : ℕ → ℕ
  at = ranked cs ds ts stand.shaped

  -- the rows keep what the theory asks of them
  abbrev steady : AllSteady rows
  steady = within_steady rows stand.within

  -- it is in the set
  in_set : (p : ℕ) → p < length cs → at p < length rows
  in_set p h = in_rows cs ds ts stand.shaped (ranked_in_lists cs ds ts stand.shaped p h)

  -- what holds of the row at each place by rank holds of each row
  each_by_rank : (P : ℕ → Type 0) → ((p : ℕ) → p < length cs → P (at p)) → (k : ℕ) → k < length rows → P k
  each_by_rank P each k h =
      let s = rank_of cs ds ts stand.shaped k (in_lists cs ds ts stand.shaped h) in
      subst P s.there (each s.place s.inside)

  -- one of the first j rows meets with no more than an allowance in the row that counts most in its load; of no rows it is a million
  pub data Attained (j allowance : ℕ) : Type 0 where
    by_none : j ≡ 0 → allowance ≡ 1_000_000 → Attained j allowance
    by_row : (p s : ℕ) → p < j → CountsMost rows (at p) s → (Meets (raised rows s (suc allowance)) (at p) → ⊥) → Attained j allowance

  -- after the first j rows by rank
  pub record Judging (j allowance period before : ℕ) : Type 0 where
    pub places : j ≤ length cs
    pub meet : (p : ℕ) → p < j → Meets rows (at p)
    pub meet_with_most : (p : ℕ) → p < j → MeetsWithMost rows steady allowance (at p)
    pub attained : Attained j allowance
    pub shortest : Shortest periods j period
    pub by_period : allowance ≤ period
    pub following : Following executions periods j before

  -- a row that meets with a raise meets with less
  meets_with_most_less : {a b k : ℕ} → a ≤ b → k < length rows → MeetsWithMost rows steady b k → MeetsWithMost rows steady a k
  meets_with_most_less {a} {b} {k} h in_set m =
      record {
        row = m.row;
        counts = m.counts;
        meets = meets_with_less rows m.row m.counts.in_set a b k (raised_steady rows steady m.row m.counts.in_set a k ((raised_in_set rows m.row a).1 in_set)).runs h m.meets;
      }

  module _ (j allowance period before : ℕ) (so_far : Judging j allowance period before) (inside : j < length cs) where
    -- the own time of the row at place j, and its load over what stands before it
    abbrev own : ℕ
    own = get_or executions j 0

    abbrev load_at_place : ℕ → ℕ
    load_at_place = load_of own (take j executions) (take j periods)

    -- where it misses, the rows do not all meet
    pub judging_stops : ((S : ℕ) → RoomAt load_at_place S → get_or ds (at j) 0 < S) → AllMeet rows → ⊥
    judging_stops late all =
        climbed_outcome rows (at j) misses (rw (deadline_of cs ds ts stand.shaped (at j), ← load_here stand j inside) late) (all (at j) (in_set j inside))

    module _ (R a : ℕ) (responds-here : LeastRoom load_at_place R × (R ≤ get_or ds (at j) 0)) (largest-raise : LargestRaise (raised_load own (take j executions) (take j periods) period) (get_or ds (at j) 0) allowance a) where
      -- the row that is raised counts most in its load
      most_here : MostCounted stand j inside period
      most_here = most_counted stand j inside so_far.shortest

      -- the raise and the row's own time are within its deadline
      raise_by_deadline : own + a ≤ get_or ds (at j) 0
      raise_by_deadline = own_and_raise own (take j executions) (take j periods) period (get_or ds (at j) 0) a (shortest_within stand so_far.places so_far.shortest).0 largest-raise.meets

      -- the raise is attained: by the row, where it is below the allowance so far, else by the row before that had that
      attained_here : Attained (j + 1) a
      attained_here = go (order_cases a allowance)
        where
          kept : Attained j allowance → a ≡ allowance → Attained (j + 1) a
          kept (by_none none million) e = absurd (omega (arith, raise_by_deadline, limits_by_rank stand j inside, execution_by_rank stand j inside))
          kept (by_row p s h counts late) e = by_row p s (omega arith) counts (rw e late)

          go : (a < allowance) ⊎ (a ≡ allowance) ⊎ (allowance < a) → Attained (j + 1) a
          go (inl less) =
              by_row j most_here.row (omega arith) most_here.counts (λ m.
              let by = raised_meets_has_room stand.within most_here.counted (suc a) m in
              omega (arith, largest-raise.largest (suc a) less (rw (deadline_of cs ds ts stand.shaped (at j)) at by)))
          go (inr (inl e)) = kept so_far.attained e
          go (inr (inr more)) = absurd (omega (arith, largest-raise.up_to))

      -- a row that meets is one more
      pub judging_more : Judging (j + 1) a (min period (get_or periods j 0)) R
      judging_more = record {
        places = omega arith;
        meet = below_more _ _ so_far.meet (record { response = R; is_response = here.0; by_deadline = here.1 });
        meet_with_most = below_more _ _ (λ p h. meets_with_most_less largest-raise.up_to (in_set p (omega arith)) (so_far.meet_with_most p h))
            (record {
              row = most_here.row;
              counts = most_here.counts;
              meets = raised_with_room_meets stand.within most_here.counted a (rw (deadline_of cs ds ts stand.shaped (at j)) largest-raise.meets);
            });
        attained = attained_here;
        shortest = shortest_more so_far.shortest (omega (arith, limits_by_rank stand j inside, period_by_rank stand j inside));
        by_period = omega (arith, largest-raise.up_to, so_far.by_period, raise_by_deadline, limits_by_rank stand j inside, period_by_rank stand j inside);
        following = following_more stand j inside R responds-here.0 responds-here.1;
      }
        where
          here : IsOutcome rows (at j) (responds R)
          here = climbed_outcome rows (at j) (responds R) (rw (deadline_of cs ds ts stand.shaped (at j), ← load_here stand j inside) responds-here)

  -- after all rows each meets, and the allowance is the core's
  pub judging_ends : {j allowance period before : ℕ} → Judging j allowance period before → length cs ≤ j → AllMeet rows × IsCoreAllowance rows allowance
  judging_ends {j} {allowance} so_far past = (all, go so_far.attained)
    where
      all : AllMeet rows
      all = each_by_rank (Meets rows) (λ p h. so_far.meet p (omega arith))

      each : (k : ℕ) → k < length rows → MeetsWithMost rows steady allowance k
      each = each_by_rank (MeetsWithMost rows steady allowance) (λ p h. so_far.meet_with_most p (omega arith))

      go : Attained j allowance → IsCoreAllowance rows allowance
      go (by_none none million) = absurd (omega (arith, stand.shaped.some_row))
      go (by_row p s h counts late) =
          core_allowance_by_most rows steady all allowance each (at p) s (in_set p (omega (arith, so_far.places))) counts late
