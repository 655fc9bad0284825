-- `read_digits` meets its contract. The invariant: the first `many` bytes are digits, and the number is theirs.
use lib.ListN.{drop}
use Rattle.fields.specs.Found.{DigitsTo}
use Rattle.fields.proofs.read_digits.Given as goal

abbrev pub invariant-loop-many : goal.invariant-loop-many
invariant-loop-many l = DigitsTo l.text l.value (drop l.many l.text)
