use mathlib.Core.Path.{◌≡◌}
use native.Mathlib.Omega.{arith}
use lib.ListN.{length, take}
use Rattle.climbs.specs.Ranking.{InRankOrder}
use Rattle.climbs.proofs.StandByRank.{as_many_by_rank}
use Rattle.trials.proofs.SetByRank.{in_time_by_rank}
use Rattle.trials.proofs.ranked.Goals as goal

pub invariant_of-result : goal.invariant_of-result
invariant_of-result c =
    let set = c.args.timed.now.set.now in
    let as_many : length c.by_rank-rows.result.c.now ≡ length set.rows.d.now = omega (arith, as_many_by_rank c.by_rank-rows.ensures, set.rows.shaped.as_many_deadlines) in
    let by_response : InRankOrder set.rows.d.now c.args.timed.now.response (take (length c.by_rank-rows.result.c.now) c.args.response.now) = rw as_many c.requires.by_rank in
    record { in_time = in_time_by_rank c.by_rank-rows.ensures c.args.timed.now.in_time by_response }
