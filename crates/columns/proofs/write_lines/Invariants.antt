-- `write_lines` meets its contract. The loop's invariant: with the lines from row i on, what is written would be all lines.
use mathlib.Core.Path.{◌≡◌}
use Prim.Native.Nat.{◌+◌, ◌*◌, ◌≤◌}
use mathlib.Core.List.{◌++◌}
use lib.ListN.{length, take}
use Rattle.rows.specs.Values.{rows_listed, figures_in}
use Rattle.texts.specs.Columns.{certified_lines}
use Rattle.columns.proofs.CertifiedLines.{certified_lines_from}
use Rattle.columns.proofs.write_lines.Given as goal

abbrev pub invariant-loop-i : goal.invariant-loop-i
invariant-loop-i l =
    (length l.text ≡ length l.initial.text)
    × (l.end ≤ l.at + 67 * l.i)
    × (take l.end l.text ++ certified_lines_from l.rows.c.now l.rows.d.now l.rows.t.now l.figures.core.now l.figures.response.now l.figures.allowance.now l.i ≡ take l.at l.initial.text ++ certified_lines (rows_listed l.rows) (figures_in l.figures))
