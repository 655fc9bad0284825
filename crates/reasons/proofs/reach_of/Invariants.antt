-- `reach_of` looks at the limit first, and then takes the points as they come up. The loop's invariant: how far those up to the last one reach. The measure is what is left up to the limit.
use Prim.Native.Nat.{◌-◌}
use Rattle.raises.specs.Raise.{load_with}
use Rattle.reasons.specs.Reason.{walk_from}
use Rattle.reasons.proofs.Reaching.{ReachedBy}
use Rattle.reasons.proofs.reach_of.Given as goal

abbrev pub invariant-loop-point : goal.invariant-loop-point
invariant-loop-point l = ReachedBy (load_with l.row l.enough.period) (walk_from l.row.t.now l.row.limit) l.point l.more l.reach

abbrev pub decreases-loop-point : goal.decreases-loop-point
decreases-loop-point l = l.row.limit - l.point
