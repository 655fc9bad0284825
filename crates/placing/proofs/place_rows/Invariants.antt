-- `place_rows` meets its contract. The loop's invariant: the rows of the first j turns are placed, and the cores hold that.
use Rattle.placement.specs.Choice.{allowance_fit}
use Rattle.placing.specs.Placed.{table_in}
use Rattle.placing.proofs.SoFar.{PlacedSoFar}
use Rattle.placing.proofs.place_rows.Given as goal

abbrev pub invariant-loop-j : goal.invariant-loop-j
invariant-loop-j l = PlacedSoFar allowance_fit (table_in l.cores l.rows) l.j l.core l.held.rows l.held.counts
