-- `LineEnd::behind` meets its contract: the end of the text, LF, CR LF, or neither.
use mathlib.Core.Path.{sym, ◌∙◌}
use mathlib.Core.List.{[], ◌∷◌}
use borrow.Author.Tests.{eqb-true, eqb-false}
use Rattle.std.specs.Prelude.{Some, None}
use Rattle.std.proofs.lemmas.Bool.Decides.{Decides-eqb}
use Rattle.std.proofs.lemmas.Slice.Eq.{strip_prefix_is}
use Rattle.texts.specs.Text.{LF, CR}
use Rattle.fields.proofs.Separators.{text_end, LF_found, CR_LF_found}
use Rattle.fields.proofs.LineEndSeparator.behind.Goals as goal

pub returns-then-is_empty : goal.returns-then-is_empty
returns-then-is_empty c = text_end c.args.text.now (eqb-true _ 0 (sym c.is_empty.ensures ∙ c.if-is_empty.true))

pub returns-in-Some : goal.returns-in-Some
returns-in-Some c = LF_found c.args.text.now c.in-Some.rest.now (strip_prefix_is Decides-eqb c.args.text.now (LF ∷ []) (Some c.in-Some.rest) c.in-Some.ensures.cases)

pub returns : goal.returns
returns c =
    let text = c.args.text.now in
    CR_LF_found text c.strip_prefix-2.result (eqb-false _ 0 (sym c.is_empty.ensures ∙ c.if-is_empty.false))
    (strip_prefix_is Decides-eqb text (LF ∷ []) None c.in_default.ensures.cases)
    (strip_prefix_is Decides-eqb text (CR ∷ LF ∷ []) c.strip_prefix-2.result c.strip_prefix-2.ensures.cases)
