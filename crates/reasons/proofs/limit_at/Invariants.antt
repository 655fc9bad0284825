-- `limit_at` asks the rows from the row itself down. The loop's invariant: the limiting row among those asked.
use Rattle.reasons.proofs.Limiting.{Searched}
use Rattle.reasons.proofs.limit_at.Given as goal

abbrev pub invariant-loop-j : goal.invariant-loop-j
invariant-loop-j l = Searched l.by_rank.c.now l.by_rank.d.now l.by_rank.t.now l.p l.smallest l.limit l.j
