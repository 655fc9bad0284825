use mathlib.Core.Path.{◌∙◌}
use native.Mathlib.Omega.{arith}
use lib.ListN.{length-set}
use Rattle.numbers.proofs.Lists.{number_more_read, numbers_all_read}
use Rattle.numbers.proofs.read_numbers.Goals as goal

pub loop-j-preserved : goal.loop-j-preserved
loop-j-preserved c =
    let bytes = c.args.bytes.now in
    let turn = c.loop-j in (
      length-set turn.numbers turn.j c.number_at.result ∙ turn.invariant.0,
      rw c.number_at.ensures (number_more_read bytes turn.numbers turn.j (omega arith) (omega arith) turn.invariant.1),
    )

pub returns-clause-result_value : goal.returns-clause-result_value
returns-clause-result_value c =
    let end = c.loop-j in numbers_all_read c.args.bytes.now end.numbers end.j (omega arith) end.invariant.1
