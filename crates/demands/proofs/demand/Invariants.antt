-- `demands::demand` meets its contract. The loop's invariant: the sum is what the first rows ask for.
use lib.ListN.{length}
use Rattle.demands.proofs.Asked.{AskedUpTo}
use Rattle.demands.proofs.demand.Given as goal

abbrev pub invariant-loop-execution : goal.invariant-loop-execution
invariant-loop-execution l = AskedUpTo l.c l.t l.time (length l.yielded) l.sum
