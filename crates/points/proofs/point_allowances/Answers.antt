use Prim.Native.Nat.{◌≤◌, ◌<◌}
use native.Mathlib.Omega.{arith}
use lib.ListN.{length}
use Rattle.climbs.proofs.InLists.{order_in_lists}
use Rattle.climbs.proofs.StandByRank.{as_many_by_rank}
use Rattle.points.proofs.AtPlace.{places_below, some_limit, bounds_at_place}
use Rattle.points.proofs.Allowed.{none_allowed, one_more_allowed, all_allowed}
use Rattle.points.proofs.point_allowances.Goals as goal

pub loop-rank-init : goal.loop-rank-init
loop-rank-init c = let rows = c.args.set.now.rows in none_allowed rows.c.now rows.d.now rows.t.now rows.shaped

pub bounds_of-best-requires : goal.bounds_of-best-requires
bounds_of-best-requires c =
    let by_rank = c.by_rank-by_rank in
    let rows = c.args.set.now.rows in
    let inside : c.loop-rank.rank < length rows.c.now = omega (arith, as_many_by_rank by_rank.ensures) in
    some_limit rows by_rank.result by_rank.ensures c.loop-rank.rank inside c.row_at.ensures

pub lower-requires-clause-all : goal.lower-requires-clause-all
lower-requires-clause-all c =
    let set = c.args.set.now in
    let rows = set.rows in
    let place = c.loop-rank.rank in
    let inside : place < length rows.c.now = omega (arith, as_many_by_rank c.by_rank-by_rank.ensures) in
    let enough : length rows.c.now ≤ length c.loop-rank.allowed = omega (arith, rows.shaped.no_25th, c.loop-rank.invariant.as_long) in (
      places_below rows.c.now rows.d.now rows.t.now rows.shaped set.order set.ranked place (omega arith) _ enough,
      omega (arith, order_in_lists rows.c.now rows.d.now rows.t.now rows.shaped set.order set.ranked place inside),
    )

pub loop-rank-preserved : goal.loop-rank-preserved
loop-rank-preserved c =
    let set = c.args.set.now in
    let rows = set.rows in
    let by_rank = c.by_rank-by_rank in
    let inside : c.loop-rank.rank < length rows.c.now = omega (arith, as_many_by_rank by_rank.ensures) in
    let bounds = bounds_at_place rows by_rank.result by_rank.ensures c.loop-rank.rank inside c.row_at.ensures {best = c.bounds_of-best.result} c.bounds_of-best.ensures.best_of_walk in
    one_more_allowed rows.c.now rows.d.now rows.t.now rows.shaped set.order set.ranked c.loop-rank.invariant inside bounds c.lower.new.allowed c.lower.auto.allowed c.lower.ensures

pub returns-clause-by_index : goal.returns-clause-by_index
returns-clause-by_index c =
    let rows = c.args.set.now.rows in
    all_allowed rows.c.now rows.d.now rows.t.now rows.shaped rows.within c.loop-rank.invariant (omega (arith, as_many_by_rank c.by_rank-by_rank.ensures))
