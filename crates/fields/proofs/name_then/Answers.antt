-- `name_then` meets its contract.
use Rattle.std.specs.Prelude.{option_copied}
use Rattle.fields.proofs.Followed.{name_followed}
use Rattle.fields.proofs.name_then.Goals as goal

pub returns : goal.returns
returns g c = name_followed g.S.Separator.kind c.args.name.now c.args.text.now c.in_ok-end.end.now c.in_ok-end.ensures (option_copied c.behind.result) c.behind.ensures
