-- `lines::write_row` meets its contract: four writes, one behind another.
use native.Mathlib.Omega.{arith}
use lib.ListN.{take}
use Rattle.rows.specs.Values.{figures_of}
use Rattle.lines.proofs.Written.{row_written}
use Rattle.lines.proofs.write_row.Goals as goal

pub returns : goal.returns
returns c =
    let one = c.write_number-end.ensures in
    let two = c.write_number-end-2.ensures in
    let three = c.write_number-end-3.ensures in
    let four = c.write_number.ensures in
    (row_written (take c.args.at c.args.text.now) c.args.number (figures_of c.args.figures) one.0 two.0 three.0 four.0, omega (arith, one.1))
