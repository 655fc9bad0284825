-- `read_numbers` meets its contract. The loop's invariant: the first j numbers of the array are the first j that the bytes are.
use mathlib.Core.Path.{◌≡◌}
use lib.ListN.{length, take}
use Rattle.records.specs.ListBytes.{numbers_in}
use Rattle.numbers.proofs.read_numbers.Given as goal

abbrev pub invariant-loop-j : goal.invariant-loop-j
invariant-loop-j l = (length l.numbers ≡ 24) × (take l.j l.numbers ≡ take l.j (numbers_in l.bytes))
