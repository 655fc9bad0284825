-- `write_row` meets its contract.
use Rattle.rows.specs.Values.{row_of}
use Rattle.records.specs.Number.{four_bytes}
use Rattle.reports.proofs.Written.{row_record_written}
use Rattle.reports.proofs.write_row.Goals as goal

pub returns : goal.returns
unfolding four_bytes
returns c =
    let kind = c.put_bytes in
    let first = c.put_number in
    let second = c.put_number-2 in
    let third = c.put_number-3 in
    row_record_written c.args.bytes.now kind.new.bytes first.new.bytes second.new.bytes third.new.bytes c.args.at (row_of c.args.row)
    c.requires kind.auto.bytes (rw c.from.ensures at kind.ensures) first.ensures second.ensures third.ensures
