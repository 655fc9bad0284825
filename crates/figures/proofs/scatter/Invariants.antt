-- `scatter` meets its contract. The loop's invariant: what is left, done to the list so far, comes to the whole done to the first list.
use mathlib.Core.Path.{◌≡◌}
use lib.ListN.{length}
use Rattle.figures.specs.Scattered.{scattered}
use Rattle.figures.proofs.scatter.Given as goal

abbrev pub invariant-loop-place : goal.invariant-loop-place
invariant-loop-place l =
    (length l.list ≡ length l.initial.list) × (scattered l.list l.place-iterator.a.rest.now l.place-iterator.b.rest.now ≡ scattered l.initial.list l.places l.numbers)
