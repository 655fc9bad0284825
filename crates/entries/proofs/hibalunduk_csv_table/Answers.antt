-- `entries::hibalunduk_csv_table` meets its contract: what is written is short.
use native.Mathlib.Omega.{arith}
use Rattle.spreadsheets.proofs.Longest.{table_written_length}
use Rattle.entries.proofs.hibalunduk_csv_table.Goals as goal

pub entry_written-requires : goal.entry_written-requires
entry_written-requires c = omega (arith, table_written_length c.table_of_text.ensures)
