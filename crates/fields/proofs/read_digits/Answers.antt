use native.Mathlib.Omega.{arith}
use mathlib.Core.Path.{sym, ap, subst, ◌∙◌}
use Prim.Native.Nat.{ℕ, ◌+◌, ◌*◌}
use lib.ListN.{drop_of_length-le}
use Rattle.fields.specs.Found.{capped, DigitsTo}
use Rattle.fields.proofs.SoFar.{rest_is, digits_begin, digits_go_on, digits_stop}
use Rattle.fields.proofs.read_digits.Goals as goal

pub loop-many-init : goal.loop-many-init
loop-many-init c = digits_begin c.args.text.now

pub returns-then-not-is_ascii_digit : goal.returns-then-not-is_ascii_digit
returns-then-not-is_ascii_digit c =
    rw (rest_is c.args.text.now c.loop-many.many)
    (c.loop-many.invariant, digits_stop c.args.text.now c.loop-many.many c.loop-many-test.true (sym c.is_ascii_digit.ensures.value ∙ c.if-not-is_ascii_digit.true))

pub loop-many-preserved : goal.loop-many-preserved
loop-many-preserved c =
    digits_go_on c.loop-many.invariant c.loop-many-test.true (sym c.is_ascii_digit.ensures.value ∙ c.if-not-is_ascii_digit.false) c.min-value.result
    (c.min-value.ensures ∙ ap (λ (digit : ℕ). capped (c.loop-many.value * 10 + digit)) c.from.ensures)

pub returns : goal.returns
returns c =
    let text = c.args.text.now in
    (subst (DigitsTo text c.loop-many.value) (drop_of_length-le text (omega arith)) c.loop-many.invariant, λ byte others same. cc)
