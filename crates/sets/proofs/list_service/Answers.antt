-- `sets::list_service` meets its contract: each stage's refusal in its order, and then both lists filled.
use mathlib.Core.Path.{◌≡◌}
use native.Mathlib.Omega.{arith}
use lib.ListN.{length-take}
use Rattle.std.proofs.Common.{Err}
use borrow.Author.Rules.{rules}
use Rattle.sets.proofs.Stages.{checks_answered, checks_pass, miss_answered, found_answered}
use Rattle.sets.proofs.list_service.Goals as goal

pub returns-in_err-rows : goal.returns-in_err-rows
returns-in_err-rows g c =
    let same : c.from_residual.result ≡ Err c.in_err-rows.field-0.0 = search rules in
    rw same (checks_answered g.F.FindAllowances.allowance c.in_err-rows.ensures)

pub returns-in_err-timed : goal.returns-in_err-timed
returns-in_err-timed g c =
    let same : c.from_residual-in_err-timed.result ≡ Err c.in_err-timed.field-0.0 = search rules in
    rw same (miss_answered g.F.FindAllowances.allowance (checks_pass c.in_ok-rows.ensures) (rw c.ranked-set.ensures at c.in_err-timed.ensures))

pub shared_ref_as_front-fill : goal.shared_ref_as_front-fill
shared_ref_as_front-fill g c = (checks_pass c.in_ok-rows.ensures).shaped.no_25th

pub fill-requires-2 : goal.fill-requires-2
fill-requires-2 g c =
    let passed = checks_pass c.in_ok-rows.ensures in
    simp length-take (omega (arith, passed.allowances_fit))

pub returns : goal.returns
returns g c =
    rw (c.fill.ensures, c.fill-2.ensures)
    (found_answered g.F.FindAllowances.allowance (checks_pass c.in_ok-rows.ensures) c.find-found.result (rw c.ranked-set.ensures at c.in_ok-timed.ensures) c.find-found.ensures.long c.find-found.ensures.each)
