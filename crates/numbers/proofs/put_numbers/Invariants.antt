-- `put_numbers` meets its contract. The loop's invariant: at the front stand the bytes of the first j numbers, the rest is as it was.
use mathlib.Core.Path.{◌≡◌}
use lib.ListN.{take}
use Rattle.records.specs.ListBytes.{bytes_of}
use Rattle.numbers.proofs.Written.{written}
use Rattle.numbers.proofs.put_numbers.Given as goal

abbrev pub invariant-loop-j : goal.invariant-loop-j
invariant-loop-j l = (l.bytes ≡ written l.initial.bytes 0 (bytes_of (take l.j l.numbers)))
