-- `sets::explain` meets its contract: each stage's refusal in its order, and then the limiting row.
use mathlib.Core.Path.{◌≡◌}
use mathlib.Core.Logic.{inl, inr}
use native.Mathlib.Omega.{arith}
use borrow.Author.Rules.{rules}
use Rattle.std.proofs.Common.{Err}
use Rattle.sets.proofs.Stages.{checks_pass, timed_same, as_many}
use Rattle.sets.proofs.Explaining.{checks_unexplained, no_such_row, miss_unexplained, limit_explained}
use Rattle.sets.proofs.explain.Goals.{then-row-eq0-via-then-row-eq0, then-row-eq0-via-else-row-eq0+then-n-row}
use Rattle.sets.proofs.explain.Goals as goal

pub returns-in_err-rows : goal.returns-in_err-rows
returns-in_err-rows c =
    let same : c.from_residual.result ≡ Err c.in_err-rows.field-0.0 = search rules in
    rw same (checks_unexplained c.in_err-rows.ensures)

pub returns-then-row-eq0 : goal.returns-then-row-eq0
returns-then-row-eq0 c =
    no_such_row (checks_pass c.in_ok-rows.ensures)
    (elim c.then-row-eq0.branch [ then-row-eq0-via-then-row-eq0 w ↦ inl (omega arith) | then-row-eq0-via-else-row-eq0+then-n-row w ↦ inr (omega arith) ])

pub returns-in_err-timed : goal.returns-in_err-timed
returns-in_err-timed c =
    let same : c.from_residual-in_err-timed.result ≡ Err c.in_err-timed.field-0.0 = search rules in
    rw same (miss_unexplained (checks_pass c.in_ok-rows.ensures) (omega arith) (omega arith) (rw c.ranked-set.ensures at c.in_err-timed.ensures))

pub limit_of-limit-requires : goal.limit_of-limit-requires
limit_of-limit-requires c =
    let timely = rw c.ranked-set.ensures at c.in_ok-timed.ensures in
    omega (arith, as_many (checks_pass c.in_ok-rows.ensures) c.in_ok-timed.timed (timed_same timely))

pub returns : goal.returns
returns c = limit_explained (checks_pass c.in_ok-rows.ensures) (omega arith) (omega arith) (rw c.ranked-set.ensures at c.in_ok-timed.ensures) c.limit_of-limit.ensures.limited_by (omega arith)
