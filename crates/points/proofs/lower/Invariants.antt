-- `points::lower` meets its contract. The loop's invariant: each row's allowance is lowered to the first bounds where those are on it.
use lib.ListN.{length}
use Rattle.points.proofs.Lowered.{LoweredUpTo}
use Rattle.points.proofs.lower.Given as goal

abbrev pub invariant-loop-i : goal.invariant-loop-i
invariant-loop-i l = LoweredUpTo l.best l.places (length l.yielded) l.initial.allowed l.allowed
