use native.Mathlib.Omega.{arith}
use mathlib.Core.List.{[], flat_map}
use lib.Seq.{paste-zero}
use Rattle.records.specs.Number.{four_bytes}
use Rattle.reports.proofs.FirstRows.{row_records_length, table_row_written, table_rows_written}
use Rattle.reports.proofs.write_rows.Goals as goal

pub loop-i-init : goal.loop-i-init
unfolding flat_map
loop-i-init c = paste-zero c.args.bytes.now 2 []

pub loop-i-preserved : goal.loop-i-preserved
unfolding four_bytes
loop-i-preserved c =
    let args = c.args in
    let row = c.write_row in
    table_row_written args.rows.now args.bytes.now c.loop-i.bytes row.new.bytes 2 c.loop-i.i (omega arith) (omega arith) c.loop-i.invariant (rw c.row_at.ensures at row.ensures)

pub returns : goal.returns
returns c =
    let args = c.args in
    let end = c.loop-i in
    rw (← row_records_length args.rows.now) (table_rows_written args.rows.now args.bytes.now end.bytes 2 end.i (omega arith) end.invariant)
