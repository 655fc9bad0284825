-- `table_service` meets its contract, stage by stage: the refusal of reading, a report too short, the refusal of certifying, the report.
use mathlib.Core.Path.{sym}
use native.Mathlib.Omega.{arith}
use lib.ListN.{length-take}
use lib.Seq.{length-take-le}
use Rattle.std.proofs.lemmas.Result.{err_from_is_err_and}
use Rattle.reading.specs.Read.{held_table}
use Rattle.rows.proofs.Fronts.{many_at_fronts}
use Rattle.certifying.proofs.Given.{given_many}
use Rattle.service.specs.Table.{TableAnswered}
use Rattle.tables.proofs.Stages.{refusal_answered}
use Rattle.tables.proofs.Reported.{table_length, given_bytes, report_put}
use Rattle.tables.proofs.table_service.Goals as goal

pub returns-in_err-read : goal.returns-in_err-read
returns-in_err-read c = let p = err_from_is_err_and c.from_residual.result c.from_residual.ensures.1 in rw (p.1, p.2) (TableAnswered.not_a_table _ _ c.in_err-read.ensures)

pub returns-then-report-n : goal.returns-then-report-n
returns-then-report-n c =
    let read = c.in_ok-read.read in
    TableAnswered.output_too_short (held_table read) c.in_ok-read.ensures (omega (arith, many_at_fronts read.held))

pub returns-in_err-certificate : goal.returns-in_err-certificate
returns-in_err-certificate c =
    let p = err_from_is_err_and c.from_residual-in_err-certificate.result c.from_residual-in_err-certificate.ensures.1 in
    rw (p.1, p.2) (refusal_answered c.in_ok-read.read c.in_ok-read.ensures c.if-report-n.false c.in_err-certificate.ensures)

pub slice_bounds-write_report-end : goal.slice_bounds-write_report-end
slice_bounds-write_report-end c =
    let read = c.in_ok-read.read in
    let long = table_length c.args.table.now (held_table read) read.held.n (λ k h. omega (arith, c.type_inv.table k)) c.in_ok-read.ensures (many_at_fronts read.held) in
    sym (length-take-le _ _ (omega (arith, long)))

pub write_report-requires-clause-in_bounds : goal.write_report-requires-clause-in_bounds
write_report-requires-clause-in_bounds c =
    let given = c.figures.ensures in
    let many = given_many c.in_ok-read.read c.in_ok-certificate.certificate c.figures.result c.in_ok-certificate.ensures given.core given.response given.allowance in
    simp length-take (omega (arith, many))

pub write_report-requires-clause-by_index : goal.write_report-requires-clause-by_index
write_report-requires-clause-by_index c =
    let given = c.figures.ensures in given_bytes c.in_ok-read.read c.in_ok-certificate.certificate c.figures.result c.in_ok-certificate.ensures given.core given.response given.allowance

pub returns : goal.returns
returns c =
    let given = c.figures.ensures in
    report_put c.in_ok-read.read c.in_ok-certificate.certificate c.figures.result c.in_ok-certificate.ensures given.core given.response given.allowance
    c.args.table.now c.args.report.now c.write_report.new.report (λ k h. omega (arith, c.type_inv.table k)) c.in_ok-read.ensures c.if-report-n.false c.write_report.ensures
