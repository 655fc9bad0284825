use mathlib.Core.Path.{◌≡◌, subst}
use Prim.Native.Nat.{ℕ}
use native.Mathlib.Omega.{arith}
use Rattle.placement.specs.Choice.{allowance_fit}
use Rattle.cores.proofs.Held.{room_on_core}
use Rattle.choices.specs.Among.{IsChoiceAmong}
use Rattle.choices.proofs.Among.{none_among_none}
use Rattle.placing.specs.Placed.{table_in}
use Rattle.placing.proofs.Considered.{considered_next, held_fit}
use Rattle.placing.proofs.choose.Goals as goal

pub loop-m-init : goal.loop-m-init
loop-m-init c without = none_among_none allowance_fit (table_in c.args.cores c.args.rows.now) without.assignment c.args.i

pub fit_with-requires : goal.fit_with-requires
fit_with-requires c =
    let room = room_on_core c.requires.held_without c.requires.cores_bound.1 c.args.rows.now.shaped.no_25th c.loop-m.m (omega (arith, c.requires.cores_bound.0)) c.places.result.now c.places.ensures in
    (room.0, c.requires.cores_bound.1, room.1)

pub loop-m-preserved : goal.loop-m-preserved
loop-m-preserved c without =
    considered_next (table_in c.args.cores c.args.rows.now) without.assignment c.args.i c.loop-m.m c.loop-m.choice c.choice_after-choice.result c.fit_with.result (omega arith) (c.loop-m.invariant without)
    (held_fit c.args.cores c.args.rows.now c.args.i c.loop-m.m _ _ c.fit_with.result (omega (arith, c.requires.cores_bound.0)) c.requires.cores_bound.1 without c.places.result.now c.places.ensures c.fit_with.ensures)
    c.choice_after-choice.ensures

pub returns : goal.returns
returns c without =
    let all : c.loop-m.m ≡ c.args.cores = omega arith in
    subst (λ (m : ℕ). IsChoiceAmong allowance_fit (table_in c.args.cores c.args.rows.now) without.assignment c.args.i m c.loop-m.choice) all (c.loop-m.invariant without)
