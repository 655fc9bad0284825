use native.Mathlib.Omega.{arith}
use lib.ListN.{take}
use Rattle.lines.proofs.Written.{one_row_more, rows_written}
use Rattle.lines.proofs.write_rows.Goals as goal

pub loop-i-preserved : goal.loop-i-preserved
loop-i-preserved c =
    let figures = c.args.figures.now in
    let head = c.loop-i in
    let row = c.write_row-end.ensures in (
      omega arith,
      omega (arith, row.1, head.invariant.1),
      one_row_more figures.core.now figures.response.now figures.allowance.now (take head.end head.text) head.i head.invariant.2 (omega arith) (omega arith) (omega arith) (rw c.figures_at.ensures at row.0),
    )

pub returns : goal.returns
returns c =
    let figures = c.args.figures.now in
    let head = c.loop-i in
    (rows_written figures.core.now figures.response.now figures.allowance.now (take head.end head.text) head.i head.invariant.2 (omega arith), omega (arith, head.invariant.1))
