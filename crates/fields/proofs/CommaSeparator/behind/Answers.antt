-- `Comma::behind` meets its contract.
use mathlib.Core.List.{[], ◌∷◌}
use Rattle.std.proofs.lemmas.Bool.Decides.{Decides-eqb}
use Rattle.std.proofs.lemmas.Slice.Eq.{strip_prefix_is}
use Rattle.texts.specs.Text.{comma}
use Rattle.fields.proofs.Separators.{comma_found}
use Rattle.fields.proofs.CommaSeparator.behind.Goals as goal

pub returns : goal.returns
returns c = comma_found c.args.text.now c.strip_prefix.result (strip_prefix_is Decides-eqb c.args.text.now (comma ∷ []) c.strip_prefix.result c.strip_prefix.ensures.cases)
