-- What a byte string is read as: the table that is held, or a refusal.
use Rattle.std.specs.Prelude.{◌≡◌, Result, Ok, Err}
use Rattle.answers.specs.declared.Refusal.{Refusal}
use Rattle.answers.specs.Answer.{refused_with}
use Rattle.placement.specs.Core.{Table}
use Rattle.records.specs.Reading.{Reading, table, refused}
use Rattle.rows.specs.Values.{rows_at_fronts}
use Rattle.reading.specs.declared.table.Table.{Table as HeldTable}

-- the table that is held
abbrev pub held_table : HeldTable → Table
held_table read = record { cores = read.cores; rows = rows_at_fronts read.held }

-- the refusal that the code's stands for
abbrev pub refused_by : Refusal → Reading
refused_by refusal = refused (refused_with refusal).number (refused_with refusal).row

-- what a byte string is read as: its table, or its refusal
abbrev pub IsRead : Reading → Result HeldTable Refusal → Type 0
IsRead reading (Ok read) = reading ≡ table (held_table read)
IsRead reading (Err refusal) = reading ≡ refused_by refusal
