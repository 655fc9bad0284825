-- `number_then` meets its contract.
use Rattle.texts.specs.Rest.{IsNumber}
use Rattle.fields.proofs.Followed.{not_followed, followed}
use Rattle.fields.proofs.number_then.Goals as goal

pub returns-in_err-rest : goal.returns-in_err-rest
returns-in_err-rest g c =
    rw c.from_residual-in_err-rest.ensures (not_followed IsNumber g.S.Separator.kind c.args.text.now c.in_ok-number.number.rest.now c.in_ok-number.ensures.0 c.in_err-rest.ensures)

pub returns : goal.returns
returns g c = (followed IsNumber g.S.Separator.kind c.args.text.now c.in_ok-number.number.rest.now c.in_ok-number.ensures.0 c.in_ok-rest.ensures, c.in_ok-number.ensures.1)
