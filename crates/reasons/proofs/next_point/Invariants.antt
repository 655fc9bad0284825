-- `next_point` goes down the levels. The loop's invariant: the walk of the levels that are left, from the time at hand, has the next point.
use Rattle.reasons.proofs.Next.{Descending}
use Rattle.reasons.proofs.next_point.Given as goal

abbrev pub invariant-loop-m : goal.invariant-loop-m
invariant-loop-m l = Descending l.row.t.now l.row.limit l.last l.m-iterator.iter.rest.now l.time
