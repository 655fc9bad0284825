use mathlib.Core.Path.{◌∙◌}
use mathlib.Core.List.{[], flat_map}
use native.Mathlib.Omega.{arith}
use lib.Seq.{paste-zero}
use Rattle.records.specs.ListBytes.{bytes_of}
use Rattle.numbers.proofs.Lists.{number_more_put, numbers_all_put}
use Rattle.numbers.proofs.put_numbers.Goals as goal

pub loop-j-init : goal.loop-j-init
unfolding bytes_of flat_map
loop-j-init c = paste-zero c.args.bytes.now 0 []

pub loop-j-preserved : goal.loop-j-preserved
loop-j-preserved c =
    let args = c.args in
    c.put_number.ensures ∙ number_more_put args.bytes.now args.numbers.now c.loop-j.bytes c.loop-j.j (omega arith) c.loop-j.invariant

pub returns : goal.returns
returns c =
    let args = c.args in c.loop-j.invariant ∙ numbers_all_put args.bytes.now args.numbers.now c.loop-j.j (omega arith)
