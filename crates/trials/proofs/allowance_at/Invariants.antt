-- `allowance_at` searches from the lowest row up to the row itself. The loop's invariant: every row from place j on has room with what is left, and no larger
-- raise leaves room to all.
use Rattle.trials.proofs.Search.{Searching}
use Rattle.trials.proofs.allowance_at.Given as goal

abbrev pub invariant-loop-j : goal.invariant-loop-j
invariant-loop-j l = Searching l.by_rank.c.now l.by_rank.d.now l.by_rank.t.now l.p l.allowance l.j
