-- `read_text` meets its contract. The invariant: the lines left are still to be read, behind n rows. The measure is what is left.
use lib.ListN.{length}
use Rattle.parsing.proofs.SoFar.{SoFar}
use Rattle.parsing.proofs.read_text.Given as goal

abbrev pub invariant-loop-rest : goal.invariant-loop-rest
invariant-loop-rest l = SoFar l.fn.text l.c l.d l.t l.n l.fault l.rest

abbrev pub decreases-loop-rest : goal.decreases-loop-rest
decreases-loop-rest l = length l.rest
