-- `walks::walk_on` meets its contract. The measure is the level. Each way of the code is a law of `Level`.
use Rattle.walks.proofs.+walk_on.Given as goal

abbrev pub decreases-walk_on : goal.decreases-walk_on
decreases-walk_on l = l.level
