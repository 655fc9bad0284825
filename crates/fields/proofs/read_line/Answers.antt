-- `read_line` meets its contract: three numbers, or a field that is not so.
use Rattle.texts.specs.Rest.{IsNumber}
use Rattle.fields.proofs.Followed.{not_first, not_second, not_third}
use Rattle.fields.proofs.LineFields.{not_a_row, row_found}
use Rattle.fields.proofs.read_line.Goals as goal

pub returns-in_err-c : goal.returns-in_err-c
returns-in_err-c c = rw c.from_residual.ensures (not_a_row c.args.text.now (not_first IsNumber IsNumber IsNumber c.args.text.now c.in_err-c.ensures))

pub returns-in_err-d : goal.returns-in_err-d
returns-in_err-d c = rw c.from_residual-in_err-d.ensures (not_a_row c.args.text.now (not_second IsNumber IsNumber IsNumber c.in_ok-c.ensures.0 c.in_err-d.ensures))

pub returns-in_err-t : goal.returns-in_err-t
returns-in_err-t c =
    rw c.from_residual-in_err-t.ensures (not_a_row c.args.text.now (not_third IsNumber IsNumber IsNumber c.in_ok-c.ensures.0 c.in_ok-d.ensures.0 c.in_err-t.ensures))

pub returns : goal.returns
returns c = row_found c.args.text.now _ c.in_ok-c.ensures c.in_ok-d.ensures c.in_ok-t.ensures
