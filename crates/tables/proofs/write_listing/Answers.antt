-- `write_listing` meets its contract: the refusal of reading, the refusal of certifying, or the listing of the figures.
use mathlib.Core.Path.{sym, subst}
use Rattle.std.proofs.lemmas.Result.{err_from_is_err_and}
use Rattle.placement.specs.Choice.{allowance_fit}
use Rattle.certifying.proofs.Given.{given_certified}
use Rattle.service.specs.Table.{Listed}
use Rattle.tables.proofs.Stages.{refusal_listed}
use Rattle.tables.proofs.write_listing.Goals as goal

pub returns-in_err-read : goal.returns-in_err-read
returns-in_err-read c = let p = err_from_is_err_and c.from_residual.result c.from_residual.ensures.1 in rw (p.1, p.2) (Listed.not_a_table _ _ c.in_err-read.ensures)

pub returns-in_err-certificate : goal.returns-in_err-certificate
returns-in_err-certificate c =
    let p = err_from_is_err_and c.from_residual-in_err-certificate.result c.from_residual-in_err-certificate.ensures.1 in
    rw (p.1, p.2) (refusal_listed c.in_ok-read.read c.in_ok-read.ensures c.in_err-certificate.ensures)

pub returns : goal.returns
returns c =
    let given = c.figures.ensures in
    let certified = given_certified c.in_ok-read.read c.in_ok-certificate.certificate c.figures.result c.in_ok-certificate.ensures given.core given.response given.allowance in
    let lines = c.write_listing.ensures in
    (subst (Listed allowance_fit c.args.table.now) (sym lines.0) (Listed.accepted _ _ c.in_ok-read.ensures certified), lines.1)
