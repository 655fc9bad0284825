-- `read_table` meets its contract: each `return` is one case of the kind 1 record at the front.
use mathlib.Core.Path.{sym, ◌∙◌}
use native.Mathlib.Omega.{arith}
use Rattle.reading.proofs.Bytes.{rest_whole}
use Rattle.reading.proofs.CoresThere.{cores_cut, no_cores, cores_out_of_range, cores_in_range}
use Rattle.reading.proofs.read_table.Goals as goal

pub returns-in_default : goal.returns-in_default
returns-in_default c = cores_cut c.args.bytes.now (omega arith)

pub returns-then-kind-from : goal.returns-then-kind-from
returns-then-kind-from c = no_cores c.args.bytes.now (λ first. c.if-kind-from.true (first ∙ sym c.from.ensures))

pub returns-then-cores-lt1 : goal.returns-then-cores-lt1
returns-then-cores-lt1 c =
    cores_out_of_range c.args.bytes.now (omega arith) (c.if-kind-from.false ∙ c.from.ensures) c.from-cores.result c.from-cores.ensures (λ some few. omega (arith, c.then-cores-lt1.either))

pub returns : goal.returns
returns c = rw (cores_in_range c.args.bytes.now (omega arith) (c.if-kind-from.false ∙ c.from.ensures) c.from-cores.result c.from-cores.ensures (omega arith) (omega arith), ← rest_whole 2 c.args.bytes.now) c.read_rows.ensures
