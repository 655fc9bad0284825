-- `climb_on` climbs to the least time with room, past the limit, or as far as its rounds take it. The loop's invariant: the climb may start from where it is,
-- and each round has brought it up.
use Rattle.demands.specs.Loads.{raised_load_in}
use Rattle.raises.proofs.Rounds.{InRounds}
use Rattle.raises.proofs.climb_on.Given as goal

abbrev pub invariant-loop-round : goal.invariant-loop-round
invariant-loop-round l = InRounds (raised_load_in l.row l.raise) l.start l.round l.at
