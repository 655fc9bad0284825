-- `halve` finds the largest raise by halves. The loop's invariant: there is room with the lower raise and none with the higher. The measure is what is between
-- the two.
use Prim.Native.Nat.{◌-◌}
use Rattle.raises.specs.Raise.{load_with}
use Rattle.raises.proofs.Halving.{Halving}
use Rattle.raises.proofs.halve.Given as goal

abbrev pub invariant-loop-low : goal.invariant-loop-low
invariant-loop-low l = Halving (load_with l.row l.most.period) l.row.limit l.most.more l.low l.high l.start

abbrev pub decreases-loop-low : goal.decreases-loop-low
decreases-loop-low l = l.high - l.low
