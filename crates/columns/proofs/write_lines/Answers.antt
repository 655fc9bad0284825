use native.Mathlib.Omega.{arith}
use lib.ListN.{take}
use Rattle.columns.proofs.Written.{one_row_more, rows_written}
use Rattle.columns.proofs.write_lines.Goals as goal

pub loop-i-preserved : goal.loop-i-preserved
loop-i-preserved c =
    let args = c.args in
    let rows = args.rows.now in
    let figures = args.figures.now in
    let head = c.loop-i in
    let line = c.write_line-end.ensures in (
      omega arith,
      omega (arith, line.1, head.invariant.1),
      one_row_more rows.c.now rows.d.now rows.t.now figures.core.now figures.response.now figures.allowance.now (take head.end head.text) head.i head.invariant.2
          (omega arith) (omega arith) (omega arith) (omega arith) (omega arith) (omega arith) (rw (c.row_at.ensures, c.figures_at.ensures) at line.0),
    )

pub returns : goal.returns
returns c =
    let args = c.args in
    let rows = args.rows.now in
    let figures = args.figures.now in
    let head = c.loop-i in (
      rows_written rows.c.now rows.d.now rows.t.now figures.core.now figures.response.now figures.allowance.now (take head.end head.text) head.i head.invariant.2 (omega arith),
      omega (arith, head.invariant.1),
    )
