-- `put_bytes` meets its contract. The loop's invariant: from the place on stand the first j bytes of the part, the rest is as it was.
use mathlib.Core.Path.{◌≡◌}
use lib.ListN.{length}
use lib.Seq.{paste}
use Rattle.numbers.proofs.put_bytes.Given as goal

abbrev pub invariant-loop-j : goal.invariant-loop-j
invariant-loop-j l = (length l.bytes ≡ length l.initial.bytes) × (l.bytes ≡ paste l.initial.bytes l.at l.part l.j)
