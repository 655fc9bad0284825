-- `entries::hibalunduk_csv` meets its contract: what is written is short.
use Rattle.spreadsheets.proofs.Longest.{text_written_length}
use Rattle.entries.proofs.hibalunduk_csv.Goals as goal

pub entry_written-requires : goal.entry_written-requires
entry_written-requires c = text_written_length c.text_service.ensures
