-- `write_fields` meets its contract: three writes, one behind another.
use native.Mathlib.Omega.{arith}
use lib.ListN.{take}
use Rattle.columns.proofs.Written.{fields_written}
use Rattle.columns.proofs.write_fields.Goals as goal

pub returns : goal.returns
returns c =
    let args = c.args in
    let one = c.write_number-end.ensures in
    let two = c.write_number-end-2.ensures in
    let three = c.write_number.ensures in
    (fields_written (take args.at args.text.now) args.first args.second args.third args.behind one.0 two.0 three.0, omega (arith, one.1))
