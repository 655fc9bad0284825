use Prim.Native.Nat.{ℕ, ◌<◌}
use native.Mathlib.Omega.{arith}
use lib.ListN.{length, get_or, take}
use Rattle.climbs.specs.declared.ranked_set.RankedSet.{RankedSet}
use Rattle.climbs.proofs.ByRank.{length_ranking}
use Rattle.climbs.proofs.InLists.{ranked_in_lists}
use Rattle.climbs.proofs.FilledByRank.{filled_more, filled_all}
use Rattle.trials.proofs.SetByRank.{allowance_of_rank}
use Rattle.trials.proofs.short_allowances.Goals as goal

-- a turn is one of a row
turn_inside : (set : RankedSet) {p : ℕ} → p < length (take (length set.rows.d.now) set.order) → p < length set.rows.c.now
turn_inside set h = let inside = rw set.ranked at h in omega (arith, inside, length_ranking set.rows.d.now, set.rows.shaped.as_many_deadlines)

-- the place of its row is below 24
place_below : (set : RankedSet) {p : ℕ} → p < length (take (length set.rows.d.now) set.order) → get_or (take (length set.rows.d.now) set.order) p 0 < 24
place_below set {p} h =
    let rows = set.rows in
    rw set.ranked (omega (arith, ranked_in_lists rows.c.now rows.d.now rows.t.now rows.shaped p (turn_inside set h), rows.shaped.no_25th))

pub offset_bounds-allowance-place : goal.offset_bounds-allowance-place
offset_bounds-allowance-place c = omega (arith, place_below c.args.timed.now.set.now c.loop-p-test.true)

pub bounds-allowance-place : goal.bounds-allowance-place
bounds-allowance-place c = place_below c.args.timed.now.set.now c.loop-p-test.true

pub loop-p-preserved : goal.loop-p-preserved
loop-p-preserved c =
    let timed = c.args.timed.now in
    let inside = turn_inside timed.set.now c.loop-p-test.true in
    rw timed.set.now.ranked
    (filled_more timed.set.now.rows.d.now _ (omega (arith, timed.set.now.rows.shaped)) c.loop-p.invariant (omega (arith, inside, timed.set.now.rows.shaped.as_many_deadlines)) c.in_ok-allowance.field-0
    (allowance_of_rank c.ranked-by_rank.ensures.stand c.loop-p.p inside timed.in_time c.in_ok-allowance.field-0 c.in_ok-allowance.ensures))

pub returns-clause-allowances : goal.returns-clause-allowances
returns-clause-allowances c =
    let set = c.args.timed.now.set.now in
    let ends = rw set.ranked at c.loop-p-test.false in
    λ i h. filled_all set.rows.d.now _ c.loop-p.invariant (omega (arith, ends, length_ranking set.rows.d.now)) i (omega (arith, h, set.rows.shaped.as_many_deadlines))
