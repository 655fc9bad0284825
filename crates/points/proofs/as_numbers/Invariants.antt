-- `points::as_numbers` meets its contract. The loop's invariant: the first numbers are the first allowances.
use mathlib.Core.Path.{◌≡◌}
use Prim.Native.Nat.{ℕ, ◌<◌}
use lib.IntN.{pos}
use lib.ListN.{length, get_or}
use Rattle.points.proofs.as_numbers.Given as goal

abbrev pub invariant-loop-i : goal.invariant-loop-i
invariant-loop-i l = (length l.numbers ≡ 24) × ((x : ℕ) → x < l.i → pos (get_or l.numbers x 0) ≡ get_or l.allowed x (pos 0))
