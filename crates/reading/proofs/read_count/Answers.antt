-- `read_count` meets its contract: each `return` is one case of the body of a kind 4 record.
use mathlib.Core.Path.{sym, ◌∙◌}
use native.Mathlib.Omega.{arith}
use Rattle.std.proofs.lemmas.Bool.Decides.{nat_tests}
use Rattle.reading.proofs.Bytes.{rest_whole}
use Rattle.reading.proofs.CountThere.{count_cut, count_without_rows, count_differs, count_and_more, count_ends}
use Rattle.reading.proofs.read_count.Goals as goal

pub returns-in_default : goal.returns-in_default
returns-in_default c = count_cut c.args.body.now c.args.n (omega arith)

pub returns-then-n-eq0 : goal.returns-then-n-eq0
returns-then-n-eq0 c = count_without_rows c.args.body.now c.args.n (omega arith) (omega arith)

pub returns-then-from-n : goal.returns-then-from-n
returns-then-from-n c = count_differs c.args.body.now c.args.n (omega arith) (omega arith) (λ same. c.if-from-n.true (c.from.ensures ∙ same))

pub returns-then-not-is_empty : goal.returns-then-not-is_empty
returns-then-not-is_empty c =
    count_and_more c.args.body.now c.args.n (omega arith) (omega arith) (sym c.from.ensures ∙ c.if-from-n.false) (grind (arith, nat_tests, rest_whole, c.is_empty.ensures))

pub returns : goal.returns
returns c = count_ends c.args.body.now c.args.n (omega arith) (omega arith) (sym c.from.ensures ∙ c.if-from-n.false) (grind (arith, nat_tests, rest_whole, c.is_empty.ensures))
