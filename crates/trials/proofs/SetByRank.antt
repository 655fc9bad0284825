-- C, D, T and the response times of a set by rank: they respond in time where the set's rows do, and an allowance among them is the row's allowance in the set.
use mathlib.Core.Path.{◌≡◌, sym, ◌∙◌, subst}
use Prim.Native.Nat.{ℕ, ◌≤◌, ◌<◌}
use mathlib.Core.Logic.{◌⊎◌, inl, inr}
use mathlib.Core.List.{List}
use native.Mathlib.Omega.{arith}
use borrow.Author.Tests.{eqb-true}
use lib.Dec.{T, eqb}
use lib.ListN.{length, get_or, take}
use Rattle.theory.specs.Row.{Row, row_at}
use Rattle.theory.specs.Rank.{rival}
use Rattle.theory.specs.Response.{load, IsResponse, Meets}
use Rattle.theory.specs.Climb.{LeastRoom}
use Rattle.theory.specs.Allowance.{raised, IsAllowance}
use Rattle.theory.specs.Points.{touches}
use Rattle.theory.specs.Lists.{rows_of}
use Rattle.theory.proofs.Tests.{equal_or_not, or_cases}
use Rattle.theory.proofs.Each.{true_of}
use Rattle.theory.proofs.Raise.{raised_in_set}
use Rattle.theory.proofs.Verdict.{within_steady}
use Rattle.theory.proofs.Trial.{response_below_room, trial_allowance}
use Rattle.demands.specs.Levels.{Small}
use Rattle.climbs.specs.Ranking.{InRankOrder, StandByRank}
use Rattle.climbs.proofs.StandByRank.{length_by_rank, limits_by_rank, execution_by_rank, deadline_by_rank, period_by_rank, as_many_by_rank, shaped_by_rank, load_here}
use Rattle.climbs.proofs.InLists.{in_rows, in_lists, deadline_of, execution_of, ranked, ranked_in_lists, above_before, ranked_once, Ranked, rank_of}
use Rattle.climbs.proofs.AtRank.{entry_at_rank}
use Rattle.raises.proofs.RaisedRow.{Counted, counts_before, counts_itself, raised_meets_has_room, raised_with_room_meets}
use Rattle.responses.specs.InTime.{RespondsInTime}
use Rattle.responses.proofs.Meeting.{all_in_time_meet}
use Rattle.trials.specs.Trial.{InTimeByRank, counted_by, RoomWith, AllowanceAt}
use Rattle.trials.proofs.Search.{counts_itself_once, counts_by_period}

-- a response time is the least time with room
least_room : (rows : List Row) (k R : ℕ) → 1 ≤ (row_at rows k).C → IsResponse rows k R → LeastRoom (load rows k) R
least_room rows k R runs is-R = record {
  room = record { from_one = is-R.at_least_one; enough = omega (arith, is-R.solves) };
  repeats = is-R.solves;
  least = λ S room. response_below_room rows k R S runs is-R room;
}

module _ {cs ds ts executions deadlines periods : List ℕ} (stand : StandByRank cs ds ts executions deadlines periods) where
  abbrev rows : List Row
  rows = rows_of cs ds ts

  abbrev at : ℕ → ℕ
  at = ranked cs ds ts stand.shaped

  -- there are as many by rank as rows
  pub in_set : {j : ℕ} → j < length executions → j < length cs
  in_set h = omega (arith, as_many_by_rank stand)

  -- the row at a place is one of the set
  pub in_rows_at : (j : ℕ) → j < length cs → at j < length rows
  in_rows_at j h = in_rows cs ds ts stand.shaped (ranked_in_lists cs ds ts stand.shaped j h)

  -- no sum over them is large
  pub small_by_rank : Small executions periods
  small_by_rank = record {
    as_many = (shaped_by_rank stand).as_many_periods;
    few = (shaped_by_rank stand).no_25th;
    period_positive = λ j h. omega (arith, limits_by_rank stand j (in_set h), period_by_rank stand j (in_set h));
    by_period = λ j h. omega (arith, limits_by_rank stand j (in_set h), period_by_rank stand j (in_set h), execution_by_rank stand j (in_set h));
    by_million = λ j h. omega (arith, limits_by_rank stand j (in_set h), period_by_rank stand j (in_set h));
  }

  -- by rank they respond in time
  pub in_time_by_rank : {responses answers : List ℕ} → ((k : ℕ) → k < length cs → RespondsInTime rows responses k) → InRankOrder ds responses answers → InTimeByRank executions deadlines periods answers
  in_time_by_rank {responses} {answers} in_time by_rank = record {
    small = small_by_rank;
    as_many_deadlines = (shaped_by_rank stand).as_many_deadlines;
    as_many_responses = omega (arith, length_by_rank ds responses answers by_rank, length_by_rank ds cs executions stand.by_C);
    by_period = λ j h. omega (arith, limits_by_rank stand j (in_set h), period_by_rank stand j (in_set h), deadline_by_rank stand j (in_set h));
    responds = λ j h. rw (load_here stand j (in_set h), answer j (in_set h)) (least_room rows (at j) (get_or responses (at j) 0) (omega (arith, (limits_by_rank stand j (in_set h)).runs, execution_of cs ds ts stand.shaped (at j))) (of_row j (in_set h)).is_response);
    by_deadline = λ j h. omega (arith, (of_row j (in_set h)).by_deadline, deadline_of cs ds ts stand.shaped (at j), answer j (in_set h), deadline_by_rank stand j (in_set h));
  }
    where
      of_row : (j : ℕ) → j < length cs → RespondsInTime rows responses (at j)
      of_row j inside = in_time (at j) (ranked_in_lists cs ds ts stand.shaped j inside)

      answer : (j : ℕ) → j < length cs → get_or answers j 0 ≡ get_or responses (at j) 0
      answer j inside = entry_at_rank cs ds ts stand.shaped j inside responses answers by_rank

  module _ (p : ℕ) (inside : p < length cs) where
    -- a row from place p on counts the row at place p
    pub counted : (j : ℕ) → p ≤ j → j < length cs → Counted rows (at j) (at p) (get_or executions j 0) (take j executions) (take j periods) (counted_by periods p j)
    counted j from h = go (equal_or_not j p)
      where
        go : (j ≡ p) ⊎ (j ≡ p → ⊥) → Counted rows (at j) (at p) (get_or executions j 0) (take j executions) (take j periods) (counted_by periods p j)
        go (inl e) = rw (e, counts_itself_once periods p) (counts_itself cs ds ts stand.shaped executions periods stand.by_C stand.by_T p inside)
        go (inr d) = rw (counts_by_period periods p j d) (counts_before cs ds ts stand.shaped executions periods stand.by_C stand.by_T j h p (omega arith))

    -- its deadline is the row's
    deadline : (j : ℕ) → j < length cs → (row_at rows (at j)).D ≡ get_or deadlines j 0
    deadline j h = deadline_of cs ds ts stand.shaped (at j) ∙ sym (deadline_by_rank stand j h)

    -- it has room with a raise exactly where it meets in the raised set
    room_of_meets : (a j : ℕ) → p ≤ j → j < length cs → Meets (raised rows (at p) a) (at j) → RoomWith executions deadlines periods p a j
    room_of_meets a j from h m = rw (deadline j h) at (raised_meets_has_room stand.within (counted j from h) a m)

    meets_of_room : (a j : ℕ) → p ≤ j → j < length cs → RoomWith executions deadlines periods p a j → Meets (raised rows (at p) a) (at j)
    meets_of_room a j from h r = raised_with_room_meets stand.within (counted j from h) a (rw (deadline j h) r)

    -- a row before place p is not touched
    pub touched_from : (q : ℕ) → q < length cs → T (touches rows (at p) (at q)) → p ≤ q
    touched_from q h touched = go (or_cases (eqb (at q) (at p)) (rival rows (at p) (at q)) touched)
      where
        go : T (eqb (at q) (at p)) ⊎ T (rival rows (at p) (at q)) → p ≤ q
        go (inl same) = omega (arith, ranked_once cs ds ts stand.shaped q p h inside (eqb-true (at q) (at p) (true_of _ same)))
        go (inr above) = let before : p < q = above_before cs ds ts stand.shaped p q inside above in omega arith

    -- an allowance by rank is the row's allowance
    pub allowance_of_rank : {responses : List ℕ} → ((k : ℕ) → k < length cs → RespondsInTime rows responses k) → (a : ℕ) → AllowanceAt executions deadlines periods p a → IsAllowance rows (at p) a
    allowance_of_rank {responses} in_time a at_rank =
        trial_allowance rows (at p) (in_rows_at p inside) a (within_steady rows stand.within) (all_in_time_meet cs ds ts responses stand.shaped in_time)
        (λ k h touched. touched_meets k (rank_of cs ds ts stand.shaped k (in_lists cs ds ts stand.shaped h)) touched)
        (λ b meet. at_rank.largest b (λ j from h. room_of_meets b j from (in_set h) (meet (at j) ((raised_in_set rows (at p) b).1 (in_rows_at j (in_set h))))))
      where
        touched_meets : (k : ℕ) → Ranked cs ds ts stand.shaped k → T (touches rows (at p) k) → Meets (raised rows (at p) a) k
        touched_meets k stands touched =
            let q = stands.place in
            let from : p ≤ q = touched_from q stands.inside (subst (λ (x : ℕ). T (touches rows (at p) x)) (sym stands.there) touched) in
            subst (Meets (raised rows (at p) a)) stands.there
            (meets_of_room a q from stands.inside (at_rank.all_have_room q from (omega (arith, stands.inside, as_many_by_rank stand))))
