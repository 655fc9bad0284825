use mathlib.Core.Path.{◌≡◌, refl, sym, ap, subst, ◌∙◌}
use native.Mathlib.Omega.{arith}
use mathlib.Core.Bool.{true≢false}
use mathlib.Core.List.{List}
use Prim.Native.Nat.{ℕ}
use denote.Ref.{Bor}
use lib.ListN.{length-set}
use borrow.Author.Tests.{eqb-true, eqb-false}
use Rattle.std.specs.Prelude.{Option, option_copied, is_ok}
use Rattle.std.specs.Option.{ok_or}
use Rattle.std.proofs.lemmas.Result.{err_from_is_err_and}
use Rattle.answers.specs.declared.Refusal.TheVariants.{LineBroken}
use Rattle.records.specs.Reading.{refused}
use Rattle.rows.proofs.Fronts.{held_rows_many}
use Rattle.texts.proofs.Reading.{read_text_within}
use Rattle.fields.specs.Found.{IsHeader}
use Rattle.parsing.proofs.Header.{header_broken}
use Rattle.parsing.proofs.SoFar.{begins, goes_on, kept_one_more, breaks, ends, ends_refused}
use Rattle.parsing.proofs.read_text.Goals as goal
use Rattle.parsing.proofs.read_text.Goals.{then-is_ok, else-is_ok}

pub returns-in_err-rest : goal.returns-in_err-rest
returns-in_err-rest c =
    let p = err_from_is_err_and c.from_residual.result c.from_residual.ensures.1 in
    let none = c.in_err-rest.ensures.ok_part in
    let first = c.in_err-rest.ensures.value ∙ ap (λ found. ok_or found (LineBroken 1)) none in
    let same : c.in_err-rest.field-0.0 ≡ LineBroken 1 = cc first in
    rw (p.1, p.2, same) (header_broken c.args.cores c.args.text.now (subst (λ (found : Option (Bor (List ℕ))). IsHeader c.args.text.now (option_copied found)) none c.read_header.ensures))

pub loop-rest-init : goal.loop-rest-init
loop-rest-init c =
    begins c.args.text.now _ _ _ refl refl refl c.in_ok-rest.rest.now
    (subst (λ (found : Option (Bor (List ℕ))). IsHeader c.args.text.now (option_copied found)) c.in_ok-rest.ensures.ok_part c.read_header.ensures)

pub returns-in_default : goal.returns-in_default
returns-in_default c =
    breaks c.args.text.now c.loop-rest.invariant (eqb-false _ 0 (sym c.is_empty.ensures ∙ c.loop-rest-test.true)) c.args.cores c.in_default.ensures ∙ ap (refused 9) (sym c.line_number.ensures)

pub loop-rest-preserved : goal.loop-rest-preserved
loop-rest-preserved c =
    let stands = c.loop-rest.invariant in
    let left = eqb-false _ 0 (sym c.is_empty.ensures ∙ c.loop-rest-test.true) in
    let line = c.in-Some.line in
    let judges = c.judge_row-fault.ensures in
    elim c.if-is_ok.branch [
      | then-is_ok w ↦
          goes_on c.args.text.now stands left line c.in-Some.ensures judges
          (λ sound. rw (w.c-is, w.d-is, w.t-is) (kept_one_more c.args.text.now stands left line c.in-Some.ensures (sym judges ∙ sound)))
          (rw w.c-is (length-set _ _ _)) (rw w.d-is (length-set _ _ _)) (rw w.t-is (length-set _ _ _))
      | else-is_ok w ↦
          goes_on c.args.text.now stands left line c.in-Some.ensures judges
          (λ sound. absurd (true≢false (sym (c.is_ok.ensures.value ∙ ap is_ok sound) ∙ w.if-is_ok.false)))
          (rw w.c-is refl) (rw w.d-is refl) (rw w.t-is refl)
    ]

pub returns-in_err-judge_table : goal.returns-in_err-judge_table
returns-in_err-judge_table c =
    let p = err_from_is_err_and c.from_residual-in_err-judge_table.result c.from_residual-in_err-judge_table.ensures.1 in
    let past = eqb-true _ 0 (sym c.is_empty.ensures ∙ c.loop-rest-test.false) in
    rw (p.1, p.2) (ends_refused c.args.text.now c.args.cores c.loop-rest.invariant past c.judge_table.ensures c.in_err-judge_table.was)

pub invariant_of-held : goal.invariant_of-held
invariant_of-held c =
    let turn = c.loop-rest in
    let ended = ends c.args.text.now c.args.cores turn.invariant (eqb-true _ 0 (sym c.is_empty.ensures ∙ c.loop-rest-test.false)) c.judge_table.ensures c.in_ok-judge_table.was in
    let within = read_text_within c.args.cores c.args.text.now _ ended.0 in
    record { held = ended.1; some_row = omega (arith, within.some_row, held_rows_many turn.c turn.d turn.t turn.n ended.1); within = within.rows_within }

pub invariant_of-result : goal.invariant_of-result
invariant_of-result c =
    let ended = ends c.args.text.now c.args.cores c.loop-rest.invariant (eqb-true _ 0 (sym c.is_empty.ensures ∙ c.loop-rest-test.false)) c.judge_table.ensures c.in_ok-judge_table.was in
    let within = read_text_within c.args.cores c.args.text.now _ ended.0 in
    record { some_core = within.some_core; no_9th_core = within.no_9th_core }

pub returns : goal.returns
returns c = (ends c.args.text.now c.args.cores c.loop-rest.invariant (eqb-true _ 0 (sym c.is_empty.ensures ∙ c.loop-rest-test.false)) c.judge_table.ensures c.in_ok-judge_table.was).0
