use Prim.Native.Nat.{◌≤◌}
use native.Mathlib.Omega.{arith}
use lib.ListN.{length}
use Rattle.theory.specs.Lists.{rows_of}
use Rattle.theory.proofs.Walk.{walk_within, walk_positive}
use Rattle.raises.specs.Raise.{load_with}
use Rattle.reasons.specs.Reason.{walk_from}
use Rattle.reasons.proofs.Reaching.{reaching_begins, reaching_ends, reached_at_limit}
use Rattle.reasons.proofs.reach_of.Goals.{After-next_point-point}
use Rattle.reasons.proofs.reach_of.Goals as goal

-- the next point is a time up to the limit
by_limit : (c : After-next_point-point) → c.next_point-point.result ≤ c.args.row.now.limit
by_limit c =
    let row = c.args.row.now in
    walk_within (rows_of row.t.now row.t.now row.t.now) (length row.t.now) _ c.next_point-point.result c.next_point-point.ensures.among_points

pub returns-in-Some : goal.returns-in-Some
returns-in-Some c =
    let row = c.args.row.now in
    reached_at_limit (load_with row c.args.enough.now.period) row.t.now row.limit c.args.enough.now.more c.in-Some.raise c.in-Some.ensures

pub loop-point-init : goal.loop-point-init
loop-point-init c =
    let row = c.args.row.now in
    reaching_begins (load_with row c.args.enough.now.period) (walk_from row.t.now row.limit)
    (λ q m. walk_positive (rows_of row.t.now row.t.now row.t.now) (length row.t.now) row.limit q c.requires m)

pub largest_at-requires-in-loop-point : goal.largest_at-requires-in-loop-point
largest_at-requires-in-loop-point c =
    (omega (arith, c.next_point-point.ensures.above_last), omega (arith, by_limit (goal.at.largest_at-requires-in-loop-point c).After-next_point-point, c.args.row.now.in_range))

pub overflow_add-more : goal.overflow_add-more
overflow_add-more c =
    omega (arith, c.in-Some-largest_at.ensures.by_point, by_limit (goal.at.overflow_add-more c).After-next_point-point, c.args.row.now.in_range)

pub returns-after-loop-point : goal.returns-after-loop-point
returns-after-loop-point c =
    let row = c.args.row.now in
    reaching_ends _ row.t.now row.limit c.loop-point.point c.loop-point.more c.args.enough.now.more c.loop-point.reach c.loop-point-test.false c.loop-point.invariant
