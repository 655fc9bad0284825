-- C, D and T of a set by rank: each row has a point where the set is on time, and a row that limits another there limits it in the set.
use mathlib.Core.Path.{◌≡◌, refl, sym, ap, ap₂, ◌∙◌, subst}
use Prim.Native.Nat.{ℕ, suc, ◌+◌, ◌*◌, ◌≤◌, ◌<◌}
use mathlib.Core.List.{List, Memᴰ}
use native.Mathlib.Omega.{arith}
use native.Mathlib.Nat.{zero-mul}
use lib.Dec.{T}
use lib.ListN.{length, get_or, take, length-map}
use Rattle.theory.specs.Row.{Row, row_at}
use Rattle.theory.specs.Rank.{above}
use Rattle.theory.specs.Response.{ceil, load, AllMeet}
use Rattle.theory.specs.Points.{walk, points, slack, times, touches, HasPoint}
use Rattle.theory.specs.Lists.{rows_of}
use Rattle.theory.specs.Explanation.{LimitedBy}
use Rattle.theory.proofs.RowsOf.{row_of_lists}
use Rattle.theory.proofs.Walk.{walk_by_periods, walk_within, walk_positive}
use Rattle.theory.proofs.Signed.{slack_left}
use Rattle.theory.proofs.Verdict.{within_steady, on_time_by_points}
use Rattle.theory.proofs.Bound.{PointFor}
use Rattle.theory.proofs.Explanation.{found_limited}
use Rattle.climbs.specs.Ranking.{ranking_by, rivals_in, StandByRank}
use Rattle.climbs.proofs.StandByRank.{limits_by_rank, execution_by_rank, period_by_rank, deadline_by_rank, as_many_by_rank, shaped_by_rank, load_here}
use Rattle.climbs.proofs.Load.{rival_entries}
use Rattle.climbs.proofs.InLists.{in_lists, ranked, above_before, Ranked, rank_of}
use Rattle.climbs.proofs.AtRank.{before_are_rivals}
use Rattle.points.proofs.Walked.{points_of_rivals}
use Rattle.raises.proofs.RaisedRow.{Counted}
use Rattle.trials.specs.Trial.{counted_by}
use Rattle.trials.proofs.SetByRank.{in_set, small_by_rank, counted, touched_from, in_rows_at}
use Rattle.reasons.specs.Reason.{walk_from, load_with_raised, points_at, PointWith, PointsByRank, LimitedAt}

module _ {cs ds ts executions deadlines periods : List ℕ} (stand : StandByRank cs ds ts executions deadlines periods) where
  abbrev rows : List Row
  rows = rows_of cs ds ts

  abbrev at : ℕ → ℕ
  at = ranked cs ds ts stand.shaped

  -- the points of the walk over what stands before a row are its points
  points_at_rank : (j : ℕ) → j < length cs → points_at deadlines periods j ≡ points rows (at j)
  points_at_rank j inside =
      ap₂ (λ (before : List ℕ) (limit : ℕ). walk_from before limit) (before_are_rivals cs ds ts stand.shaped j inside ts periods stand.by_T) (deadline_by_rank stand j inside)
      ∙ walk_by_periods (rows_of after after after) (rows_of others after after) same (length after) (get_or ds (at j) 0)
      ∙ ap (λ (n : ℕ). walk (rows_of others after after) n (get_or ds (at j) 0)) as_many
      ∙ points_of_rivals cs ds ts stand.shaped (at j)
    where
      after : List ℕ
      after = rival_entries ts ds (at j)

      others : List ℕ
      others = rival_entries cs ds (at j)

      as_many : length after ≡ length others
      as_many = length-map (rivals_in (ranking_by ds) ds (at j)) (λ h. get_or ts h 0) ∙ sym (length-map (rivals_in (ranking_by ds) ds (at j)) (λ h. get_or cs h 0))

      same : (i : ℕ) → (row_at (rows_of after after after) i).T ≡ (row_at (rows_of others after after) i).T
      same i = ap (λ (row : Row). row.T) (row_of_lists after after after refl refl i) ∙ sym (ap (λ (row : Row). row.T) (row_of_lists others after after as_many as_many i))

  -- a point is a time from 1 to a million
  module _ (j : ℕ) (inside : j < length cs) (q : ℕ) (among : Memᴰ q (points_at deadlines periods j)) where
    from_one : 1 ≤ q
    from_one =
        walk_positive (rows_of (take j periods) (take j periods) (take j periods)) (length (take j periods)) (get_or deadlines j 0) q
        (omega (arith, limits_by_rank stand j inside, deadline_by_rank stand j inside)) among

    by_million : q ≤ 1_000_000
    by_million =
        omega (
          arith,
          walk_within (rows_of (take j periods) (take j periods) (take j periods)) (length (take j periods)) (get_or deadlines j 0) q among,
          limits_by_rank stand j inside,
          deadline_by_rank stand j inside,
        )

  module _ (p : ℕ) (inside : p < length cs) where
    -- the load by rank is the row's
    same_load : (j : ℕ) → p ≤ j → j < length cs → (a q : ℕ) → Memᴰ q (points_at deadlines periods j) → load_with_raised executions periods p j a q ≡ load rows (at j) q + a * times rows (at j) (at p) q
    same_load j from h a q m =
        let c : Counted rows (at j) (at p) (get_or executions j 0) (take j executions) (take j periods) (counted_by periods p j) = counted stand p inside j from h in
        ap₂ (λ (asked jobs : ℕ). asked + a * jobs) (ap (λ (f : ℕ → ℕ). f q) c.is_load) (sym (c.as_often q (from_one j h q m) (by_million j h q m)))

    -- a point with room by rank is one of the row's
    point_for : (j : ℕ) → p ≤ j → j < length cs → (a : ℕ) → PointWith executions deadlines periods p j a → PointFor rows (at j) (at p) a
    point_for j from h a q = record {
      point = q.point;
      among_points = subst (Memᴰ q.point) (points_at_rank j h) q.among_points;
      room = omega (arith, q.room, same_load j from h a q.point q.among_points);
    }

    -- and the other way round
    point_with : (j : ℕ) → p ≤ j → j < length cs → (a : ℕ) → PointFor rows (at j) (at p) a → PointWith executions deadlines periods p j a
    point_with j from h a q =
        let among = subst (Memᴰ q.point) (sym (points_at_rank j h)) q.among_points in
        record { point = q.point; among_points = among; room = omega (arith, q.room, same_load j from h a q.point among) }

    -- A LIMITING ROW BY RANK LIMITS THE ROW IN THE SET
    pub limited_of_rank : AllMeet rows → (row point : ℕ) → LimitedAt executions deadlines periods p row point → LimitedBy rows (at p) (at row) point
    limited_of_rank all row point l =
        found_limited rows (within_steady rows stand.within) (at p) (in_rows_at stand p inside) all (at row) point l.allowance
        (record {
          in_set = in_rows_at stand row row_inside;
          touched = (counted stand p inside row l.from row_inside).touched;
          each_has_room = λ h there t. let stands = place h there in at_its_place l.allowance h stands t (λ from. l.each_has_room stands.place from (by_rank stands.inside));
          above_have_more = λ h there t ranks.
              let stands = place h there in
              at_its_place (suc l.allowance) h stands t (λ from. l.above_have_more stands.place from (above_before cs ds ts stand.shaped stands.place row stands.inside (subst (λ (x : ℕ). T (above rows x (at row))) (sym stands.there) ranks)));
          no_more = λ q. l.no_more (point_with row l.from row_inside (suc l.allowance) q);
          among_points = subst (Memᴰ point) (points_at_rank row row_inside) l.least_point.among_points;
          has_room = omega (arith, l.least_point.room, same_load row l.from row_inside l.allowance point l.least_point.among_points);
          least = λ q m room.
              let among = subst (Memᴰ q) (sym (points_at_rank row row_inside)) m in
              l.least_point.least q among (omega (arith, room, same_load row l.from row_inside l.allowance q among));
        })
      where
        row_inside : row < length cs
        row_inside = in_set stand l.inside

        place : (h : ℕ) → h < length rows → Ranked cs ds ts stand.shaped h
        place h there = rank_of cs ds ts stand.shaped h (in_lists cs ds ts stand.shaped there)

        by_rank : {j : ℕ} → j < length cs → j < length executions
        by_rank h = omega (arith, as_many_by_rank stand)

        -- a row that the raise touches, at its place by rank
        at_its_place : (a h : ℕ) (stands : Ranked cs ds ts stand.shaped h)
            → T (touches rows (at p) h)
            → (p ≤ stands.place → PointWith executions deadlines periods p stands.place a)
            → PointFor rows h (at p) a
        at_its_place a h stands touched with-room =
            let from : p ≤ stands.place = touched_from stand p inside stands.place stands.inside (subst (λ (x : ℕ). T (touches rows (at p) x)) (sym stands.there) touched) in
            subst (λ (x : ℕ). PointFor rows x (at p) a) stands.there (point_for stands.place from stands.inside a (with-room from))

  -- where the set is on time, each row has a point
  pub points_by_rank : AllMeet rows → PointsByRank executions deadlines periods
  unfolding slack
  points_by_rank all = record {
    small = small_by_rank stand;
    as_many_deadlines = (shaped_by_rank stand).as_many_deadlines;
    runs = λ j h. let l = in_set stand h in omega (arith, limits_by_rank stand j l, execution_by_rank stand j l);
    by_deadline = λ j h. let l = in_set stand h in omega (arith, limits_by_rank stand j l, execution_by_rank stand j l, deadline_by_rank stand j l);
    by_period = λ j h. let l = in_set stand h in omega (arith, limits_by_rank stand j l, period_by_rank stand j l, deadline_by_rank stand j l);
    have_points = λ p j h. has_point p j (in_set stand h);
  }
    where
      has_point : (p j : ℕ) → j < length cs → PointWith executions deadlines periods p j 0
      has_point p j h =
          let q : HasPoint rows (at j) = (on_time_by_points rows (within_steady rows stand.within)).0 all (at j) (in_rows_at stand j h) in
          record {
            point = q.point;
            among_points = subst (Memᴰ q.point) (sym (points_at_rank j h)) q.among_points;
            room = omega (
              arith,
              (slack_left q.point (load rows (at j) q.point)).0 q.slack_left,
              ap (λ (f : ℕ → ℕ). f q.point) (load_here stand j h),
              zero-mul (ceil q.point (counted_by periods p j)),
            );
          }
