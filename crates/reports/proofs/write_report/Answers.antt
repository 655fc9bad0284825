-- `write_report` meets its contract.
use mathlib.Core.Path.{◌∙◌}
use Prim.Native.Nat.{ℕ, ◌+◌, ◌*◌}
use mathlib.Core.List.{List, [], ◌∷◌, flat_map}
use native.Mathlib.Omega.{arith}
use lib.ListN.{length}
use Rattle.rows.specs.Values.{figures_in}
use Rattle.records.specs.Report.{figures_record}
use Rattle.reports.proofs.Written.{three_written, three_fill}
use Rattle.reports.proofs.FirstRows.{records_length}
use Rattle.reports.proofs.write_report.Goals as goal

pub returns : goal.returns
returns c =
    let records = c.args.records.now in
    let figures = c.args.figures.now in
    let core = figures.core.now in
    let rows = flat_map figures_record (figures_in figures) in
    let long = records_length core figures.response.now figures.allowance.now figures.as_many_responses figures.as_many_allowances in
    let count : List ℕ = 4 ∷ length core ∷ [] in
    three_written c.args.report.now c.put_bytes.new.bytes c.write_all_figures.new.report c.write_kind.new.report
    0 (length records) (length records + 10 * length core)
    records rows count
    (omega arith) (omega arith) (omega (arith, long))
    c.put_bytes.ensures (rw long c.write_all_figures.ensures) c.write_kind.ensures
    ∙ three_fill c.args.report.now records rows count
