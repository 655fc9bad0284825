-- `read_name` meets its contract: another name, or this one.
use Rattle.std.specs.Prelude.{Some, None, option_copied}
use Rattle.std.proofs.lemmas.Bool.Decides.{Decides-eqb}
use Rattle.std.proofs.lemmas.Slice.Eq.{strip_prefix_is}
use Rattle.fields.proofs.NumberFields.{no_name, name_held}
use Rattle.fields.proofs.read_name.Goals as goal

pub returns-in_err-end : goal.returns-in_err-end
returns-in_err-end c =
    rw c.from_residual.ensures
    (no_name c.args.text.now c.content_of.result.now c.content_of.ensures c.args.name.now c.requires.0 c.requires.1
    (strip_prefix_is Decides-eqb c.content_of.result.now c.args.name.now None c.in_err-end.ensures.cases))

pub returns : goal.returns
returns c =
    name_held c.args.text.now c.content_of.result.now c.content_of.ensures c.args.name.now c.requires.0 c.requires.1 c.in_ok-end.end.now
    (strip_prefix_is Decides-eqb c.content_of.result.now c.args.name.now (Some c.in_ok-end.end) c.in_ok-end.ensures.cases)
    (option_copied c.field_end.result) c.field_end.ensures
