-- `write_line` meets its contract: the row's fields, its figures' and the line's end, one behind another.
use native.Mathlib.Omega.{arith}
use lib.ListN.{take}
use Rattle.rows.specs.Values.{row_of, figures_of}
use Rattle.columns.proofs.Written.{line_written}
use Rattle.columns.proofs.write_line.Goals as goal

pub returns : goal.returns
returns c =
    let args = c.args in
    let one = c.write_fields-end.ensures in
    let two = c.write_fields-end-2.ensures in
    let three = c.write_bytes.ensures in
    (line_written (take args.at args.text.now) (row_of args.row) (figures_of args.figures) one.0 two.0 three.0, omega (arith, one.1, two.1, three.1))
