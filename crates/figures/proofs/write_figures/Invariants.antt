-- `write_figures` meets its contract. The loop's invariant: the figures of the rows on the cores so far stand at their places.
use mathlib.Core.Path.{◌≡◌}
use lib.ListN.{length}
use Rattle.rows.specs.Values.{rows_in}
use Rattle.figures.specs.Placed.{PlacedRows}
use Rattle.figures.proofs.Written.{FiguredUpTo}
use Rattle.figures.proofs.write_figures.Given as goal

abbrev pub invariant-loop-m : goal.invariant-loop-m
invariant-loop-m l =
    (length l.responses ≡ length l.rows.c.now)
    × (length l.allowances ≡ length l.rows.c.now)
    × ((placed : PlacedRows (rows_in l.rows) l.held.rows l.held.counts) → FiguredUpTo (rows_in l.rows) placed.assignment l.responses l.allowances l.m)
