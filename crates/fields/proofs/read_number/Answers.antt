-- `read_number` meets its contract: no digits, digits that no quote closes, or a number.
use Rattle.fields.proofs.NumberFields.{no_digits, digits_not_closed, digits_held}
use Rattle.fields.proofs.read_number.Goals as goal

pub returns-then-digits-content : goal.returns-then-digits-content
returns-then-digits-content c =
    no_digits c.args.text.now c.content_of-content.result.now c.content_of-content.ensures c.read_digits-digits.result c.read_digits-digits.ensures c.if-digits-content.true

pub returns-in_err-rest : goal.returns-in_err-rest
returns-in_err-rest c =
    rw c.from_residual.ensures
    (digits_not_closed c.args.text.now c.content_of-content.result.now c.content_of-content.ensures c.read_digits-digits.result c.read_digits-digits.ensures c.in_err-rest.ensures)

pub returns : goal.returns
returns c =
    digits_held c.args.text.now c.content_of-content.result.now c.content_of-content.ensures c.read_digits-digits.result c.read_digits-digits.ensures c.in_ok-rest.rest.now
    c.if-digits-content.false c.in_ok-rest.ensures
