-- `lines_of` meets its contract: 1102 bytes are enough for every table.
use Rattle.std.proofs.Common.{arith}
use Rattle.tables.proofs.Longest.{always_written, some_written, always_some}
use Rattle.bench.proofs.lines_of.Goals as goal

pub unwrap-requires : goal.unwrap-requires
unwrap-requires c = always_some c.list_table.result c.requires c.list_table.ensures.answered

pub returns : goal.returns
returns c =
    let answered = rw c.unwrap.ensures at c.list_table.ensures.answered in
    let some = some_written c.requires answered in
    record { listed = always_written c.requires answered; some = some.0; inside = omega (arith, some.1) }
