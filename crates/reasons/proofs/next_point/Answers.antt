use Rattle.reasons.proofs.Next.{descending_to_multiple, descending_at_time, descending_ends}
use Rattle.reasons.proofs.next_point.Goals as goal

pub loop-m-preserved-then-last-stop : goal.loop-m-preserved-then-last-stop
loop-m-preserved-then-last-stop c =
    descending_to_multiple _ _ _ _ _ _ _ _ c.loop-m.invariant c.in-Some.ensures.steps c.last_multiple-stop.ensures c.if-last-stop.true

pub loop-m-preserved : goal.loop-m-preserved
loop-m-preserved c = descending_at_time _ _ _ _ _ _ _ _ c.loop-m.invariant c.in-Some.ensures.steps c.last_multiple-stop.ensures c.if-last-stop.false

pub returns : goal.returns
returns c = descending_ends _ _ _ c.in-None.ensures.steps.0 c.loop-m.invariant
