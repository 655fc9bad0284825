-- `walks::lift_to_quotient` meets its contract: where the test fails, the quotient is not greater, and the entry stays as it was.
use mathlib.Core.Path.{◌≡◌, sym, ap₂, ◌∙◌}
use lib.IntN.{ℤ, pos, nat_abs}
use mir.Syntax.{w64}
use mir.ValLaws.{to_z-of_z}
use Rattle.theory.specs.Points.{floor_div}
use Rattle.theory.proofs.Greater.{greater_first, greater_second}
use Rattle.walks.proofs.Held.{held, held_as_it_is}
use Rattle.walks.proofs.Exceeds.{says_whether}
use Rattle.walks.proofs.lift_to_quotient.Goals as goal

pub returns-then-best-divisor : goal.returns-then-best-divisor
returns-then-best-divisor c =
    let a = c.args in
    let divisor-is : held c.from-divisor.result ≡ pos a.m = held_as_it_is c.from-divisor.result c.from-divisor.type_inv ∙ c.from-divisor.ensures in
    let quotient-is : held c.floor_div.result ≡ floor_div a.slack a.m = held_as_it_is c.floor_div.result c.floor_div.type_inv
    ∙ c.floor_div.ensures
    ∙ ap₂ (λ (z m : ℤ). floor_div z (nat_abs m)) (to_z-of_z w64 a.slack c.ranges.slack) divisor-is in
    quotient-is
    ∙ sym (greater_second a.best.now (floor_div a.slack a.m) (says_whether c.requires.in_range c.requires.le_m c.from-divisor.ensures c.ranges.slack c.if-best-divisor.true))

pub returns-else-best-divisor : goal.returns-else-best-divisor
returns-else-best-divisor c =
    let a = c.args in
    sym (greater_first a.best.now (floor_div a.slack a.m) (says_whether c.requires.in_range c.requires.le_m c.from-divisor.ensures c.ranges.slack c.if-best-divisor.false))
