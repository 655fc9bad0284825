-- Rows that arrays hold are rows within the limits, as lists.
use Rattle.rows.proofs.Fronts.{held_shaped}
use Rattle.rows.proofs.held.HeldRows.rows.Goals as goal

pub invariant_of-result : goal.invariant_of-result
invariant_of-result c = let rows = c.args.self.now in record { shaped = held_shaped rows.c rows.d rows.t rows.n rows.held rows.some_row; within = rows.within }
