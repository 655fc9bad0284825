use mathlib.Core.Path.{refl}
use Prim.Native.Nat.{◌<◌}
use native.Mathlib.Omega.{arith}
use lib.ListN.{length}
use Rattle.climbs.proofs.InLists.{in_lists}
use Rattle.climbs.proofs.StandByRank.{as_many_by_rank}
use Rattle.climbs.proofs.RowAtRank.{start_of_row}
use Rattle.responses.proofs.Turn.{turn_responds, turn_misses, turns_end, place_fits}
use Rattle.responses.proofs.responses_of.Goals as goal

pub climb_from-requires : goal.climb_from-requires
climb_from-requires c =
    let by_rank = c.by_rank-by_rank in
    let inside : c.loop-j.j < length c.args.set.now.rows.c.now = omega (arith, as_many_by_rank by_rank.ensures) in
    start_of_row c.args.set.now.rows by_rank.result by_rank.ensures c.loop-j.j inside c.row_at-row.ensures c.loop-j.invariant.following

pub returns-in_default : goal.returns-in_default
returns-in_default c =
    let by_rank = c.by_rank-by_rank in
    turn_misses c.args.set.now by_rank.result by_rank.ensures c.loop-j.j c.loop-j-test.true c.row_at-row.ensures c.loop-j.invariant c.in_default.ensures

pub offset_bounds-response-k : goal.offset_bounds-response-k
offset_bounds-response-k c =
    let by_rank = c.by_rank-by_rank in
    omega (arith, place_fits c.args.set.now by_rank.result by_rank.ensures c.loop-j.j c.loop-j-test.true c.row_at-row.ensures)

pub bounds-response-k : goal.bounds-response-k
bounds-response-k c =
    let by_rank = c.by_rank-by_rank in
    place_fits c.args.set.now by_rank.result by_rank.ensures c.loop-j.j c.loop-j-test.true c.row_at-row.ensures

pub loop-j-preserved : goal.loop-j-preserved
loop-j-preserved c =
    let by_rank = c.by_rank-by_rank in
    turn_responds c.args.set.now by_rank.result by_rank.ensures c.loop-j.j c.loop-j-test.true c.row_at-row.ensures c.loop-j.invariant c.in-Some.r c.in-Some.ensures

pub invariant_of-result : goal.invariant_of-result
invariant_of-result c =
    let by_rank = c.by_rank-by_rank in
    record {
      in_time = turns_end c.args.set.now by_rank.result by_rank.ensures c.loop-j.invariant c.loop-j-test.false;
      long = c.loop-j.invariant.so_far.long;
    }

pub returns : goal.returns
returns c =
    let rows = c.args.set.now.rows in
    let by_rank = c.by_rank-by_rank in
    (refl, λ k h. turns_end c.args.set.now by_rank.result by_rank.ensures c.loop-j.invariant c.loop-j-test.false k (in_lists rows.c.now rows.d.now rows.t.now rows.shaped h))
