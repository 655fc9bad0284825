-- `points::point_allowances` meets its contract. The loop's invariant: each row's allowance is lowered to the bounds of the first rows by rank that raising it
-- touches.
use Rattle.points.proofs.Allowed.{AllowedUpTo}
use Rattle.points.proofs.point_allowances.Given as goal

abbrev pub invariant-loop-rank : goal.invariant-loop-rank
invariant-loop-rank l = AllowedUpTo l.set.rows.c.now l.set.rows.d.now l.set.rows.t.now l.rank l.allowed
