-- `read_rows` meets its contract. The loop's invariant: the rest is still to be read, behind the n rows held. The measure is how many bytes it has.
use lib.ListN.{length}
use Rattle.reading.proofs.SoFar.{SoFar}
use Rattle.reading.proofs.read_rows.Given as goal

abbrev pub invariant-loop-row : goal.invariant-loop-row
invariant-loop-row l = SoFar l.records l.cores l.c l.d l.t l.n l.rest

abbrev pub decreases-loop-row : goal.decreases-loop-row
decreases-loop-row l = length l.rest
