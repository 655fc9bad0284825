-- `row_in` meets its contract: its numbers are those of the definition.
use Rattle.records.specs.Reading.{row_in}
use Rattle.reading.proofs.row_in.Goals as goal

pub returns : goal.returns
unfolding row_in
returns c i = record { C = c.number_at.ensures i; D = c.number_at-2.ensures i; T = c.number_at-3.ensures i }
