-- `write_rows` meets its contract. The loop's invariant: from place 2 on stand the kind 2 records of the first i rows, the rest is as it was.
use mathlib.Core.Path.{◌≡◌}
use mathlib.Core.List.{flat_map}
use lib.ListN.{take}
use Rattle.rows.specs.Values.{rows_listed}
use Rattle.records.specs.Report.{row_record}
use Rattle.numbers.proofs.Written.{written}
use Rattle.reports.proofs.write_rows.Given as goal

abbrev pub invariant-loop-i : goal.invariant-loop-i
invariant-loop-i l = l.bytes ≡ written l.initial.bytes 2 (flat_map row_record (take l.i (rows_listed l.rows)))
