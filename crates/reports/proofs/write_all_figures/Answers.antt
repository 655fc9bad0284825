use native.Mathlib.Omega.{arith}
use mathlib.Core.List.{[], flat_map}
use lib.Seq.{paste-zero}
use Rattle.records.specs.Number.{four_bytes}
use Rattle.reports.proofs.FirstRows.{records_length, row_written, all_written}
use Rattle.reports.proofs.write_all_figures.Goals as goal

pub loop-i-init : goal.loop-i-init
unfolding flat_map
loop-i-init c = paste-zero c.args.report.now c.args.at []

pub write_figures-requires : goal.write_figures-requires
write_figures-requires c = (omega arith, rw c.figures_at.ensures (c.requires.by_index c.loop-i.i (omega arith)))

pub loop-i-preserved : goal.loop-i-preserved
unfolding four_bytes
loop-i-preserved c =
    let args = c.args in
    let figures = args.figures.now in
    let row = c.write_figures in
    row_written figures.core.now figures.response.now figures.allowance.now figures.as_many_responses figures.as_many_allowances
    args.report.now c.loop-i.report row.new.report args.at c.loop-i.i (omega arith) (omega arith) c.loop-i.invariant (rw c.figures_at.ensures at row.ensures)

pub returns : goal.returns
returns c =
    let args = c.args in
    let figures = args.figures.now in
    let end = c.loop-i in
    rw (← records_length figures.core.now figures.response.now figures.allowance.now figures.as_many_responses figures.as_many_allowances)
    (all_written figures.core.now figures.response.now figures.allowance.now figures.as_many_responses figures.as_many_allowances
    args.report.now end.report args.at end.i (omega arith) end.invariant)
