-- `table_of_text` meets its contract: the refusal of reading, or the table's bytes where they fit.
use Rattle.std.proofs.lemmas.Result.{err_from_is_err_and}
use Rattle.service.specs.Text.{TextTabled}
use Rattle.spreadsheets.proofs.Stages.{table_too_long, table_put}
use Rattle.spreadsheets.proofs.table_of_text.Goals as goal

pub returns-in_err-table : goal.returns-in_err-table
returns-in_err-table c = let p = err_from_is_err_and c.from_residual.result c.from_residual.ensures.1 in rw (p.1, p.2) (TextTabled.not_a_table _ _ c.in_err-table.ensures)

pub returns-then-lent-length : goal.returns-then-lent-length
returns-then-lent-length c = table_too_long c.args.cores c.args.text.now c.args.lent.now c.in_ok-table.table c.in_ok-table.ensures c.if-lent-length.true

pub returns : goal.returns
returns c =
    table_put c.args.cores c.args.text.now c.args.lent.now c.in_ok-table.table c.in_ok-table.ensures c.write_table.new.bytes c.if-lent-length.false
    (rw (c.lists.ensures.c, c.lists.ensures.d, c.lists.ensures.t, c.rows.ensures.c, c.rows.ensures.d, c.rows.ensures.t) at c.write_table.ensures)
