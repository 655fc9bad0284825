-- `climb_with_leaps` climbs to the least time with room, or past the limit. The loop's invariant: the climb may start from where it is. The measure is what is left
-- up to a million, which no limit passes.
use Prim.Native.Nat.{◌-◌}
use Rattle.theory.specs.Climb.{Start}
use Rattle.demands.specs.Loads.{raised_load_in}
use Rattle.leaps.proofs.climb_with_leaps.Given as goal

abbrev pub invariant-loop-outcome : goal.invariant-loop-outcome
invariant-loop-outcome l = Start (raised_load_in l.row l.raise) l.at

abbrev pub decreases-loop-outcome : goal.decreases-loop-outcome
decreases-loop-outcome l = 1_000_001 - l.at
