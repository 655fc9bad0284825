-- `read_row` meets its contract: each `return` is one case of a kind 2 record.
use mathlib.Core.Path.{sym, ◌∙◌}
use native.Mathlib.Omega.{arith}
use Rattle.reading.proofs.RecordThere.{row_25_there, row_cut_there, broken_there, kept_there}
use Rattle.reading.proofs.read_row.Goals as goal

pub returns-then-n-eq24 : goal.returns-then-n-eq24
returns-then-n-eq24 c = row_25_there c.args.body.now c.args.n (omega arith)

pub returns-then-body-lt12 : goal.returns-then-body-lt12
returns-then-body-lt12 c = row_cut_there c.args.body.now c.args.n (omega arith) (omega arith)

pub returns-then-not-within_limits : goal.returns-then-not-within_limits
returns-then-not-within_limits c = broken_there c.args.body.now c.args.n (omega arith) (omega arith) c.row_in-row.ensures (sym c.within_limits.ensures ∙ c.if-not-within_limits.true)

pub returns : goal.returns
returns c = kept_there c.args.body.now c.args.n (omega arith) (omega arith) c.row_in-row.ensures (sym c.within_limits.ensures ∙ c.if-not-within_limits.false)
