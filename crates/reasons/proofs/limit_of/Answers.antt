-- `limit_of` gathers the rows by rank and asks for the limiting row there.
use mathlib.Core.Path.{◌≡◌, subst}
use Prim.Native.Nat.{ℕ, ◌<◌}
use native.Mathlib.Omega.{arith}
use lib.ListN.{length, get_or, length-take}
use Rattle.theory.specs.Response.{AllMeet}
use Rattle.theory.specs.Explanation.{LimitedBy}
use Rattle.rows.specs.Values.{rows_in}
use Rattle.climbs.specs.Ranking.{ranking_by}
use Rattle.climbs.proofs.ByRank.{mem_ranking}
use Rattle.climbs.proofs.InLists.{ranked_in_lists}
use Rattle.climbs.proofs.StandByRank.{as_many_by_rank}
use Rattle.responses.specs.declared.timed.Timed.{Timed}
use Rattle.responses.proofs.Meeting.{all_in_time_meet}
use Rattle.reasons.proofs.ByRank.{points_by_rank, limited_of_rank}
use Rattle.reasons.proofs.limit_of.Goals as goal

-- the rows of a set that is on time meet
all_meet : (timed : Timed) → AllMeet (rows_in timed.set.now.rows)
all_meet timed = let rows = timed.set.now.rows in all_in_time_meet rows.c.now rows.d.now rows.t.now timed.response rows.shaped timed.in_time

pub place_of-p-requires : goal.place_of-p-requires
place_of-p-requires c =
    let set = c.args.timed.now.set.now in
    rw set.ranked (mem_ranking set.rows.d.now c.args.i (omega (arith, set.rows.shaped.as_many_deadlines)))

pub limit_at-limit-requires-clause-points_by_rank : goal.limit_at-limit-requires-clause-points_by_rank
limit_at-limit-requires-clause-points_by_rank c = points_by_rank c.ranked-by_rank.ensures.stand (all_meet c.args.timed.now)

pub returns-clause-limited_by : goal.returns-clause-limited_by
returns-clause-limited_by c =
    let set = c.args.timed.now.set.now in
    let rows = set.rows in
    let stand = c.ranked-by_rank.ensures.stand in
    let inside : c.place_of-p.result < length rows.c.now = omega (arith, c.place_of-p.ensures.0, length-take (length rows.d.now) set.order, rows.shaped.as_many_deadlines) in
    let is_row : get_or (ranking_by rows.d.now) c.place_of-p.result 0 ≡ c.args.i = rw set.ranked at c.place_of-p.ensures.1 in
    let limit = c.limit_at-limit.result in
    rw set.ranked
    (subst (λ (i : ℕ). LimitedBy (rows_in rows) i (get_or (ranking_by rows.d.now) limit.row 0) limit.point) is_row
    (limited_of_rank stand c.place_of-p.result inside (all_meet c.args.timed.now) limit.row limit.point c.limit_at-limit.ensures))

pub returns-clause-row_in_bounds : goal.returns-clause-row_in_bounds
returns-clause-row_in_bounds c =
    let set = c.args.timed.now.set.now in
    let rows = set.rows in
    rw set.ranked (ranked_in_lists rows.c.now rows.d.now rows.t.now rows.shaped c.limit_at-limit.result.row (omega (arith, c.limit_at-limit.ensures.inside, as_many_by_rank c.ranked-by_rank.ensures.stand)))
