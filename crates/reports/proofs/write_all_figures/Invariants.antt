-- `write_all_figures` meets its contract. The loop's invariant: from the place on stand the kind 3 records of the first i rows, the rest is as it was.
use mathlib.Core.Path.{◌≡◌}
use Rattle.numbers.proofs.Written.{written}
use Rattle.reports.proofs.FirstRows.{first_records}
use Rattle.reports.proofs.write_all_figures.Given as goal

abbrev pub invariant-loop-i : goal.invariant-loop-i
invariant-loop-i l = l.report ≡ written l.initial.report l.at (first_records l.figures.core.now l.figures.response.now l.figures.allowance.now l.i)
