use mathlib.Core.Path.{◌≡◌, refl, subst}
use Rattle.reasons.specs.declared.Limit.{Limit}
use Rattle.reasons.specs.Reason.{Reached, load_with_raised, points_at, LimitedAt}
use Rattle.reasons.proofs.Limiting.{LimitFound, within_period, something_reached, search_lowers, search_stays, search_ends, search_left}
use Rattle.reasons.proofs.limit_at.Goals.{After-reach_of, Left-loop-j, then-reach-smallest, else-reach-smallest, else-loop-j-test, then-loop-j-test+then-smallest-eq0}
use Rattle.reasons.proofs.limit_at.Goals as goal

-- how far the row's points reach, on the lists
reached_at_place : (c : After-reach_of) → Reached (load_with_raised c.args.by_rank.now.c.now c.args.by_rank.now.t.now c.args.p c.loop-j.j) (points_at c.args.by_rank.now.d.now c.args.by_rank.now.t.now c.loop-j.j) c.loop-j.smallest c.reach_of.result
reached_at_place c = rw (c.row_at.ensures.executions_above, c.row_at.ensures.periods_above, c.row_at.ensures.own, c.row_at.ensures.limit, c.counted_by.ensures) at c.reach_of.ensures

-- after the loop the limiting row is found
found : (c : Left-loop-j) → LimitFound c.args.by_rank.now.c.now c.args.by_rank.now.d.now c.args.by_rank.now.t.now c.args.p c.loop-j.limit
found c = elim c.loop-j-test.branch [
  | else-loop-j-test w ↦ search_ends _ _ _ _ c.requires.points_by_rank c.requires.p_in_bounds c.loop-j.invariant w.loop-j-test.false
  | then-loop-j-test+then-smallest-eq0 w ↦ search_left _ _ _ _ c.requires.points_by_rank c.requires.p_in_bounds c.loop-j.invariant w.if-smallest-eq0.true
]

pub invariant_of-enough : goal.invariant_of-enough
invariant_of-enough c =
    let lists = c.args.by_rank.now in
    record { in_range = rw c.counted_by.ensures (within_period lists.c.now lists.d.now lists.t.now c.args.p c.requires.points_by_rank c.requires.p_in_bounds c.loop-j.smallest c.loop-j.invariant.by_deadline c.loop-j.j) }

pub unwrap-reach-requires : goal.unwrap-reach-requires
unwrap-reach-requires c =
    something_reached _ _ _ _ c.requires.points_by_rank c.requires.p_in_bounds c.loop-j.smallest c.loop-j.j c.loop-j-test.true c.reach_of.result (reached_at_place (goal.at.unwrap-reach-requires c).After-reach_of)

pub loop-j-preserved : goal.loop-j-preserved
loop-j-preserved c =
    let reached = rw c.unwrap-reach.ensures at (reached_at_place (goal.at.loop-j-preserved c).After-reach_of) in
    elim c.if-reach-smallest.branch [
      | then-reach-smallest w ↦
          rw (w.smallest-is, w.limit-is) (search_lowers _ _ _ _ c.requires.points_by_rank c.requires.p_in_bounds c.loop-j.invariant c.loop-j-test.true reached w.if-reach-smallest.true)
      | else-reach-smallest w ↦
          rw (w.smallest-is, w.limit-is) (search_stays _ _ _ _ c.requires.points_by_rank c.requires.p_in_bounds c.loop-j.invariant c.loop-j-test.true reached w.if-reach-smallest.false)
    ]

pub unwrap-requires : goal.unwrap-requires
unwrap-requires c = rw (found c).is_found refl

pub returns : goal.returns
returns c =
    let lists = c.args.by_rank.now in
    let there = found (goal.at.returns c).Left-loop-j in
    let same : there.limit ≡ c.unwrap.result = cc (there.is_found, c.unwrap.ensures) in
    subst (λ (limit : Limit). LimitedAt lists.c.now lists.d.now lists.t.now c.args.p limit.row limit.point) same there.limits
