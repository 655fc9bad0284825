-- `answer_in_bytes` meets its contract: the service on arrays cut to the answer lists' room, and an accepted call's numbers put into the bytes.
use mathlib.Core.Path.{◌≡◌, refl, sym}
use native.Mathlib.Omega.{arith}
use lib.ListN.{length-take}
use lib.Seq.{length-take-le}
use borrow.Author.Rules.{rules}
use Rattle.std.proofs.Common.{Err}
use Rattle.entries.proofs.Bytes.{cut_refused, cut_accepted}
use Rattle.entries.proofs.Lent.{lent_is_cut, place_for_each}
use Rattle.answers.proofs.Refused.{number_not_0}
use Rattle.entries.proofs.answer_in_bytes.Goals as goal

pub returns-in_err-answer : goal.returns-in_err-answer
returns-in_err-answer g c =
    let same : c.from_residual.result ≡ Err c.in_err-answer.field-0.0 = search rules in
    rw same
    (cut_refused _ _ (λ k h. omega (arith, c.type_inv.responses k)) (λ k h. omega (arith, c.type_inv.allowances k))
    (lent_is_cut c.args.responses.now c.args.allowances.now c.room-r.ensures c.room-a.ensures c.answer.auto.responses c.answer.auto.allowances c.in_err-answer.ensures)
    (number_not_0 c.in_err-answer.field-0.0))

pub slice_bounds-response-end-2 : goal.slice_bounds-response-end-2
slice_bounds-response-end-2 g c =
    let places = place_for_each c.args.responses.now c.args.allowances.now c.room-r.ensures c.room-a.ensures c.answer.auto.responses c.answer.auto.allowances c.in_ok-answer.ensures refl in
    omega (arith, places)

pub slice_bounds-put_numbers-end : goal.slice_bounds-put_numbers-end
slice_bounds-put_numbers-end g c =
    let places = place_for_each c.args.responses.now c.args.allowances.now c.room-r.ensures c.room-a.ensures c.answer.auto.responses c.answer.auto.allowances c.in_ok-answer.ensures refl in
    sym (length-take-le _ _ (omega (arith, places)))

pub put_numbers-requires : goal.put_numbers-requires
put_numbers-requires g c =
    let places = place_for_each c.args.responses.now c.args.allowances.now c.room-r.ensures c.room-a.ensures c.answer.auto.responses c.answer.auto.allowances c.in_ok-answer.ensures refl in
    simp length-take (omega (arith, places))

pub slice_bounds-allowance-end-2 : goal.slice_bounds-allowance-end-2
slice_bounds-allowance-end-2 g c =
    let places = place_for_each c.args.responses.now c.args.allowances.now c.room-r.ensures c.room-a.ensures c.answer.auto.responses c.answer.auto.allowances c.in_ok-answer.ensures refl in
    omega (arith, places)

pub slice_bounds-put_numbers-end-2 : goal.slice_bounds-put_numbers-end-2
slice_bounds-put_numbers-end-2 g c =
    let places = place_for_each c.args.responses.now c.args.allowances.now c.room-r.ensures c.room-a.ensures c.answer.auto.responses c.answer.auto.allowances c.in_ok-answer.ensures refl in
    sym (length-take-le _ _ (omega (arith, places)))

pub put_numbers-requires-2 : goal.put_numbers-requires-2
put_numbers-requires-2 g c =
    let places = place_for_each c.args.responses.now c.args.allowances.now c.room-r.ensures c.room-a.ensures c.answer.auto.responses c.answer.auto.allowances c.in_ok-answer.ensures refl in
    simp length-take (omega (arith, places))

pub returns : goal.returns
returns g c =
    cut_accepted _ _ (λ k h. search rules) (λ k h. search rules)
    (lent_is_cut c.args.responses.now c.args.allowances.now c.room-r.ensures c.room-a.ensures c.answer.auto.responses c.answer.auto.allowances c.in_ok-answer.ensures)
    _ _ refl c.put_numbers.ensures c.put_numbers-2.ensures
