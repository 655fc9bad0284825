-- `lines::write_rows` meets its contract. The loop's invariant: with the lines from row i on, what is written would be all lines.
use mathlib.Core.Path.{◌≡◌}
use Prim.Native.Nat.{◌+◌, ◌*◌, ◌≤◌}
use mathlib.Core.List.{◌++◌}
use lib.ListN.{length, take}
use Rattle.rows.specs.Values.{figures_in}
use Rattle.listing.specs.Listing.{row_lines}
use Rattle.listing.proofs.RowLines.{lines_from}
use Rattle.lines.proofs.write_rows.Given as goal

abbrev pub invariant-loop-i : goal.invariant-loop-i
invariant-loop-i l =
    (length l.text ≡ length l.initial.text)
    × (l.end ≤ l.at + 44 * l.i)
    × (take l.end l.text ++ lines_from l.figures.core.now l.figures.response.now l.figures.allowance.now l.i ≡ take l.at l.initial.text ++ row_lines 1 (figures_in l.figures))
