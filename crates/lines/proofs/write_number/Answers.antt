-- `lines::write_number` meets its contract: the digits, and the byte behind them.
use mathlib.Core.Path.{◌≡◌, ◌∙◌}
use native.Mathlib.Omega.{arith}
use lib.ListN.{take}
use Rattle.std.specs.Fmt.{decimal}
use Rattle.lines.proofs.Written.{number_written}
use Rattle.lines.proofs.write_number.Goals as goal

pub returns : goal.returns
returns c =
    let is : c.as_bytes.result.now ≡ decimal c.args.n = c.as_bytes.ensures.value ∙ c.format.ensures.text in
    (number_written (take c.args.at c.args.text.now) c.args.n c.args.behind (omega arith) (rw is at c.write_bytes-end.ensures.0) c.write_bytes.ensures.0, omega arith)
