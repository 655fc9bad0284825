-- `leap` takes the raise and then row after row by its jobs or as linear. The loop's invariant: a part of them was taken as linear.
use Prim.Native.Nat.{suc}
use lib.ListN.{length}
use Rattle.leaps.proofs.Leaps.{LeapingIn}
use Rattle.leaps.proofs.leap.Given as goal

abbrev pub invariant-loop-c : goal.invariant-loop-c
invariant-loop-c l = LeapingIn l.row l.raise l.at (suc (length l.yielded)) l.leap.rest l.leap.free
