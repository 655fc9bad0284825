-- A row of a set with one of the rows that it counts raised, on lists: the row meets exactly where there is room with the raised load.
use mathlib.Core.Path.{◌≡◌, refl, sym, ap, ◌∙◌, subst}
use Prim.Native.Nat.{ℕ, ◌+◌, ◌*◌, ◌≤◌, ◌<◌}
use mathlib.Core.Bool.{Bool, true, false}
use mathlib.Core.List.{List}
use native.Mathlib.Omega.{arith}
use borrow.Author.Tests.{eqb-true, eq-eqb}
use lib.Dec.{T, eqb, eqb_refl}
use lib.ListN.{length, get_or, take}
use Rattle.theory.specs.Row.{Row, row_at, AllWithin}
use Rattle.theory.specs.Rank.{rival}
use Rattle.theory.specs.Response.{ceil, load, Meets}
use Rattle.theory.specs.Allowance.{raised}
use Rattle.theory.specs.Points.{touches, times}
use Rattle.theory.specs.Lists.{rows_of, Shaped}
use Rattle.theory.proofs.Tests.{or_first, or_second}
use Rattle.theory.proofs.Ceil.{ceil_one}
use Rattle.theory.proofs.Response.{Room, meets_room, room_meets}
use Rattle.theory.proofs.Raise.{raised_in_set, raised_row, load_of_touched}
use Rattle.theory.proofs.Verdict.{within_steady}
use Rattle.theory.proofs.Allowance.{raised_steady}
use Rattle.theory.proofs.Rank.{rival_irreflexive}
use Rattle.demands.specs.Levels.{load_of}
use Rattle.climbs.proofs.ByRank.{above_of_lists}
use Rattle.climbs.proofs.InLists.{in_rows, period_of, ranked, ranked_in_lists, ranked_above}
use Rattle.climbs.specs.Ranking.{InRankOrder}
use Rattle.climbs.proofs.AtRank.{entry_at_rank, load_at_rank}
use Rattle.demands.specs.Loads.{raised_load}
use Rattle.raises.specs.Raise.{RoomBy}

-- how a row and one that its load counts stand in lists: the row's load is the load over them, and it counts the other once for each job of a period
pub record Counted (rows : List Row) (k s own : ℕ) (cs ts : List ℕ) (period : ℕ) : Type 0 where
  pub in_set : k < length rows
  pub other_in_set : s < length rows
  pub touched : T (touches rows s k)
  pub is_load : load_of own cs ts ≡ load rows k
  pub as_often : (t : ℕ) → 1 ≤ t → t ≤ 1_000_000 → times rows k s t ≡ ceil t period

module _ {rows : List Row} (within : AllWithin rows) {k s own : ℕ} {cs ts : List ℕ} {period : ℕ} (counted : Counted rows k s own cs ts period) (a : ℕ) where
  -- the load of the row in the raised set is the raised load
  raised_load_lem : (t : ℕ) → 1 ≤ t → t ≤ 1_000_000 → load (raised rows s a) k t ≡ raised_load own cs ts period a t
  raised_load_lem t from_one by_million =
      load_of_touched rows s a counted.other_in_set k t counted.touched
      ∙ ap (λ (n : ℕ). load rows k t + a * n) (counted.as_often t from_one by_million)
      ∙ ap (λ (f : ℕ → ℕ). f t + a * ceil t period) (sym counted.is_load)

  -- its deadline stays
  same_deadline : (row_at (raised rows s a) k).D ≡ (row_at rows k).D
  same_deadline = ap (λ (row : Row). row.D) (raised_row rows s a counted.other_in_set k)

  -- a row that meets has room
  pub raised_meets_has_room : Meets (raised rows s a) k → RoomBy (raised_load own cs ts period a) (row_at rows k).D
  raised_meets_has_room m =
      let r : Room (raised rows s a) k (row_at (raised rows s a) k).D = meets_room (raised rows s a) k m in
      let by_deadline : r.time ≤ (row_at rows k).D = omega (arith, r.within, same_deadline) in
      record {
        time = r.time;
        room = record { from_one = r.room.from_one; enough = omega (arith, r.room.enough, raised_load_lem r.time r.room.from_one (omega (arith, within k counted.in_set))) };
        by_limit = by_deadline;
      }

  -- and one with room meets
  pub raised_with_room_meets : RoomBy (raised_load own cs ts period a) (row_at rows k).D → Meets (raised rows s a) k
  raised_with_room_meets r =
      room_meets (raised rows s a) k
      (raised_steady rows (within_steady rows within) s counted.other_in_set a k ((raised_in_set rows s a).1 counted.in_set)).runs
      (record {
        time = r.time;
        room = record {
          from_one = r.room.from_one;
          enough = omega (arith, r.room.enough, raised_load_lem r.time r.room.from_one (omega (arith, r.by_limit, within k counted.in_set)));
        };
        within = omega (arith, r.by_limit, same_deadline);
      })

-- a row's load counts its own C once
pub once_of_itself : (rows : List Row) (k t : ℕ) → times rows k k t ≡ 1
unfolding times
once_of_itself rows k t = rw (eq-eqb k k refl, times)

module _ (cs ds ts : List ℕ) (shaped : Shaped cs ds ts) (executions periods : List ℕ) (by_C : InRankOrder ds cs executions) (by_T : InRankOrder ds ts periods) (j : ℕ) (inside : j < length cs) where
  abbrev rows : List Row
  rows = rows_of cs ds ts

  abbrev at : ℕ → ℕ
  at = ranked cs ds ts shaped

  -- a row before it is its rival
  rival_before : (q : ℕ) → q < j → T (rival rows (at q) (at j))
  rival_before q h = subst (λ (relation : ℕ → ℕ → Bool). T (relation (at q) (at j))) (sym (above_of_lists cs ds ts shaped.as_many_deadlines shaped.as_many_periods)) (ranked_above cs ds ts shaped q j h inside)

  -- it counts one before it as often as that has jobs
  pub jobs_of_one_before : (q t : ℕ) → q < j → times rows (at j) (at q) t ≡ ceil t (get_or periods q 0)
  unfolding times
  jobs_of_one_before q t h = go (eqb (at j) (at q)) refl
    where
      go : (b : Bool) → eqb (at j) (at q) ≡ b → times rows (at j) (at q) t ≡ ceil t (get_or periods q 0)
      go true e = absurd (rival_irreflexive rows (at j) (subst (λ (h : ℕ). T (rival rows h (at j))) (sym (eqb-true (at j) (at q) e)) (rival_before q h)))
      go false e = rw (e, times) (ap (ceil t) (period_of cs ds ts shaped (at q) ∙ sym (entry_at_rank cs ds ts shaped q (omega arith) ts periods by_T)))

  -- a row by rank counts each before it once for each job of its period
  pub counts_before : (q : ℕ) → q < j → Counted rows (at j) (at q) (get_or executions j 0) (take j executions) (take j periods) (get_or periods q 0)
  counts_before q h = record {
    in_set = in_rows cs ds ts shaped (ranked_in_lists cs ds ts shaped j inside);
    other_in_set = in_rows cs ds ts shaped (ranked_in_lists cs ds ts shaped q (omega arith));
    touched = or_second (eqb (at j) (at q)) (rival rows (at q) (at j)) (rival_before q h);
    is_load = load_at_rank cs ds ts shaped j inside executions periods by_C by_T;
    as_often = λ t from_one by_million. jobs_of_one_before q t h;
  }

  -- and itself once
  pub counts_itself : Counted rows (at j) (at j) (get_or executions j 0) (take j executions) (take j periods) 1_000_000
  counts_itself = record {
    in_set = in_rows cs ds ts shaped (ranked_in_lists cs ds ts shaped j inside);
    other_in_set = in_rows cs ds ts shaped (ranked_in_lists cs ds ts shaped j inside);
    touched = or_first (eqb (at j) (at j)) (rival rows (at j) (at j)) (eqb_refl (at j));
    is_load = load_at_rank cs ds ts shaped j inside executions periods by_C by_T;
    as_often = λ t from_one by_million. once_of_itself rows (at j) t ∙ sym (ceil_one t from_one by_million);
  }
