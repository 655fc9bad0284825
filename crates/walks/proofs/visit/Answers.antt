use mathlib.Core.Path.{◌≡◌, sym, ap, ap₂, ◌∙◌, subst}
use Prim.Native.Nat.{ℕ, ◌≤◌, ◌<◌}
use native.Mathlib.Omega.{arith}
use lib.IntN.{pos}
use lib.ListN.{length, get_or}
use lib.Seq.{length-take-le}
use Rattle.std.proofs.lemmas.List.{get_or-take}
use Rattle.std.proofs.Common.{rules}
use Rattle.theory.specs.Moved.{greater}
use Rattle.theory.specs.Points.{floor_div}
use Rattle.walks.specs.Quotients.{quotient_of}
use Rattle.walks.proofs.Held.{held_as_it_is, greater_held}
use Rattle.walks.proofs.Quotients.{jobs_within, quotient_above, quotient_own}
use Rattle.walks.proofs.Lifted.{LiftedUpTo, one_more_lifted}
use Rattle.walks.proofs.visit.Goals as goal

pub lift_to_quotient-requires-clause-le_m : goal.lift_to_quotient-requires-clause-le_m
lift_to_quotient-requires-clause-le_m c =
    let small = c.args.row.now.small in
    let inside : c.loop-j.j < length c.args.row.now.c.now = omega (arith, length-take-le (length c.args.row.now.c.now) c.slack_at-slack.new.jobs (omega (arith, small.few))) in
    subst (λ (m : ℕ). (1 ≤ m) × (m ≤ 1_000_000))
    (sym (get_or-take _ _ _ 0 inside ∙ c.slack_at-slack.ensures.holds_jobs c.loop-j.j (omega (arith, small.as_many))))
    (jobs_within c.args.p (small.period_positive c.loop-j.j inside) c.requires.le_p.0 c.requires.le_p.1)

pub loop-j-preserved : goal.loop-j-preserved
loop-j-preserved c =
    let slack = c.slack_at-slack in
    let loop = c.loop-j in
    let inside : loop.j < length c.args.row.now.c.now = omega (arith, length-take-le (length c.args.row.now.c.now) slack.new.jobs (omega (arith, c.args.row.now.small.few))) in
    let further : loop.j < length c.args.row.now.t.now = omega (arith, c.args.row.now.small.as_many) in
    one_more_lifted _ _ _ _ _ _ loop.invariant (omega arith)
    (c.lift_to_quotient.ensures
    ∙ ap (greater (get_or loop.best loop.j (pos 0)))
    (ap₂ floor_div (held_as_it_is slack.result slack.type_inv ∙ slack.ensures.value) (get_or-take _ _ _ 0 inside ∙ slack.ensures.holds_jobs loop.j further)
    ∙ quotient_above _ _ _ _ _ further))

-- at the end every entry is lifted, the last one to the slack
pub returns : goal.returns
returns c =
    let row = c.args.row.now in
    let slack = c.slack_at-slack in
    let loop = c.loop-j in
    let n = length row.c.now in
    let last : loop.j ≡ n = omega (arith, length-take-le (length row.c.now) slack.new.jobs (omega (arith, row.small.few))) in
    let so-far : LiftedUpTo (quotient_of row.own row.c.now row.t.now) c.args.p n c.args.best.now loop.best = rw last at loop.invariant in
    let all = one_more_lifted _ _ _ _ _ _ so-far c.requires.c_in_bounds
    (greater_held c.max.ensures.value (search rules) (search rules) (search rules)
    ∙ ap (greater (get_or loop.best n (pos 0))) (slack.ensures.value ∙ quotient_own _ _ _ _ _ (omega (arith, row.small.as_many)))) in
    λ k h. all.lifted k (omega arith)
