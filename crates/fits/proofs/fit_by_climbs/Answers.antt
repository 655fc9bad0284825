use Prim.Native.Nat.{◌<◌}
use native.Mathlib.Omega.{arith}
use lib.ListN.{length}
use Rattle.climbs.proofs.StandByRank.{as_many_by_rank, deadline_by_rank}
use Rattle.climbs.proofs.RowAtRank.{start_of_row}
use Rattle.fits.proofs.Counting.{shortest_within}
use Rattle.fits.proofs.Judging.{judging_stops, judging_more, judging_ends}
use Rattle.fits.proofs.fit_by_climbs.Goals as goal

pub overflow_add-before : goal.overflow_add-before
overflow_add-before c = let so_far = c.loop-j.invariant c.by_rank-by_rank.ensures in omega (arith, so_far.following.by_million, c.row_at-row.result.in_range)

pub invariant_of-most : goal.invariant_of-most
invariant_of-most c =
    let stand = c.by_rank-by_rank.ensures in
    let so_far = c.loop-j.invariant stand in
    let period = shortest_within stand so_far.places so_far.shortest in
    record { in_range = (so_far.by_period, period.0, period.1) }

pub judge-requires : goal.judge-requires
judge-requires c =
    let stand = c.by_rank-by_rank.ensures in
    let inside : c.loop-j.j < length c.args.set.now.rows.c.now = omega (arith, as_many_by_rank stand) in
    start_of_row c.args.set.now.rows c.by_rank-by_rank.result stand c.loop-j.j inside c.row_at-row.ensures (c.loop-j.invariant stand).following

pub returns-in-None : goal.returns-in-None
returns-in-None c =
    let stand = c.by_rank-by_rank.ensures in
    let at = c.loop-j in
    let here = c.row_at-row.ensures in
    let inside : at.j < length c.args.set.now.rows.c.now = omega (arith, as_many_by_rank stand) in
    let told = rw c.in-None.is at c.in_ok-judged.ensures in
    judging_stops stand at.j at.allowance at.period at.before (at.invariant stand) inside (rw (here.own, here.executions_above, here.periods_above, here.limit, deadline_by_rank stand at.j inside) at told)

pub loop-j-preserved : goal.loop-j-preserved
loop-j-preserved c stand =
    let at = c.loop-j in
    let here = c.row_at-row.ensures in
    let inside : at.j < length c.args.set.now.rows.c.now = omega (arith, as_many_by_rank stand) in
    let told = rw c.in-Some.is at c.in_ok-judged.ensures in
    let judged = rw (here.own, here.executions_above, here.periods_above, here.limit, deadline_by_rank stand at.j inside) at told in
    rw c.min-period.ensures (judging_more stand at.j at.allowance at.period at.before (at.invariant stand) inside c.in-Some.judged.response c.in-Some.judged.raise judged.0 judged.1)

pub returns : goal.returns
returns c =
    let stand = c.by_rank-by_rank.ensures in
    judging_ends stand (c.loop-j.invariant stand) (omega (arith, as_many_by_rank stand))
