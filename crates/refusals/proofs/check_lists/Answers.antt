-- `refusals::check_lists` meets its contract: each `return` is one case, from the tests that led there and what `first_broken` found.
use mathlib.Core.Path.{refl}
use mathlib.Core.Logic.{inl, inr}
use native.Mathlib.Omega.{arith}
use Rattle.refusals.specs.Checked.{rows_out_of_range, output_too_short, passed}
use Rattle.refusals.proofs.Rows.{broken_in_set, by_number}
use borrow.Author.Rules.{rules}
use Rattle.refusals.proofs.check_lists.Goals as goal

pub returns-then-n-lt1 : goal.returns-then-n-lt1
returns-then-n-lt1 c = rows_out_of_range (λ shaped. omega (arith, c.then-n-lt1.either))

pub overflow_cast-result : goal.overflow_cast-result
overflow_cast-result c =
    let inside = broken_in_set c.args.c.now c.args.d.now c.args.t.now (search rules) (search rules) c.in-Some.ensures in
    omega arith

pub overflow_add-result : goal.overflow_add-result
overflow_add-result c =
    let inside = broken_in_set c.args.c.now c.args.d.now c.args.t.now (search rules) (search rules) c.in-Some.ensures in
    omega arith

pub returns-in-Some : goal.returns-in-Some
returns-in-Some c = by_number c.args.c.now c.args.d.now c.args.t.now (search rules) (search rules) (omega arith) c.in-Some.ensures (omega arith)

pub returns-then-responses-n : goal.returns-then-responses-n
returns-then-responses-n c = output_too_short (search rules) c.in_default.ensures (elim c.then-responses-n.either [ inl short ↦ inl short | inr short ↦ inr (omega arith) ])

pub invariant_of-result : goal.invariant_of-result
invariant_of-result c =
    record { shaped = record { some_row = omega arith; no_25th = omega arith; as_many_deadlines = omega arith; as_many_periods = omega arith }; within = c.in_default.ensures }

pub returns : goal.returns
returns c = passed _ refl refl refl (omega arith) (omega arith)
