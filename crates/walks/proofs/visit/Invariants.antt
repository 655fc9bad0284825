-- `walks::visit` meets its contract. The loop's invariant: the first j entries are lifted to their quotients at the point, and the others are as they were.
use Rattle.walks.specs.Quotients.{quotient_of}
use Rattle.walks.proofs.Lifted.{LiftedUpTo}
use Rattle.walks.proofs.visit.Given as goal

abbrev pub invariant-loop-j : goal.invariant-loop-j
invariant-loop-j l = LiftedUpTo (quotient_of l.row.own l.row.c.now l.row.t.now) l.p l.j l.initial.best l.best
