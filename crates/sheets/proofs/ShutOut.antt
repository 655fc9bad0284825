-- Versions of the list services that their promise shuts out: document 01, "Versions to be shut out". Sheet 1 does it, and a list of no rows.
use mathlib.Core.Path.{◌≡◌, refl, sym, ◌∙◌, ap}
use Prim.Native.Nat.{ℕ, ◌<◌}
use mathlib.Core.List.Memᴰ
use mathlib.Core.List.{List, [], ◌∷◌}
use native.Mathlib.Omega.{arith}
use lib.ListN.{length, get_or}
use Rattle.theory.specs.Returned.{Returned, returned}
use Rattle.theory.specs.Lists.{SetAnswered}
use Rattle.theory.specs.Lists as lists
use Rattle.theory.proofs.Lists.{Same, set_answered_unique}
use Rattle.sheets.specs.Sheets.{sheets, the_four, executions, deadlines, periods}
use Rattle.sheets.specs.Sheets as sheet
use Rattle.sheets.proofs.Sheets.{every_sheet_holds}

-- what a list service is called with
pub record Call : Type 0 where
  pub c : List ℕ
  pub d : List ℕ
  pub t : List ℕ
  pub responses : List ℕ
  pub allowances : List ℕ

-- sheet 1, with four numbers lent for each answer
sheet_one : Call
unfolding the_four
sheet_one = record {
  c = executions the_four;
  d = deadlines the_four;
  t = periods the_four;
  responses = 0 ∷ 0 ∷ 0 ∷ 0 ∷ [];
  allowances = 0 ∷ 0 ∷ 0 ∷ 0 ∷ [];
}

-- no rows, and nothing lent
no_rows : Call
no_rows = record { c = []; d = []; t = []; responses = []; allowances = [] }

-- a version of the set service that keeps its promise on every call
module _ (answer : Call → Returned) (responses-after allowances-after : Call → List ℕ)
    (keeps : (call : Call) → SetAnswered call.c call.d call.t call.responses call.allowances (answer call) (responses-after call) (allowances-after call)) where
  on_sheet_one : Same (answer sheet_one) (returned 0 0) (responses-after sheet_one) (10 ∷ 25 ∷ 55 ∷ 125 ∷ []) (allowances-after sheet_one) (21 ∷ 32 ∷ 65 ∷ 70 ∷ [])
  unfolding sheets the_four sheet_one
  on_sheet_one =
      set_answered_unique sheet_one.c sheet_one.d sheet_one.t sheet_one.responses sheet_one.allowances (keeps sheet_one)
      (every_sheet_holds (sheet.set_accepted the_four (10 ∷ 25 ∷ 55 ∷ 125 ∷ []) (21 ∷ 32 ∷ 65 ∷ 70 ∷ [])) (Memᴰ.head refl) sheet_one.responses sheet_one.allowances (omega arith) (omega arith)).0

  on_no_rows : answer no_rows ≡ returned 3 0
  unfolding no_rows
  on_no_rows = (set_answered_unique [] [] [] [] [] (keeps no_rows) (lists.rows_out_of_range (λ shaped. absurd (omega (arith, shaped.some_row))))).same_answer

  pub refusing_all_is_shut_out : ((call : Call) → answer call ≡ returned 0 0 → ⊥) → ⊥
  refusing_all_is_shut_out refuses = refuses sheet_one on_sheet_one.same_answer

  pub answering_all_alike_is_shut_out : ((call other : Call) → answer call ≡ answer other) → ⊥
  answering_all_alike_is_shut_out alike =
      let same : ◌≡◌ {A = ℕ} 0 3 = ap (λ (r : Returned). r.number) (sym on_sheet_one.same_answer ∙ alike sheet_one no_rows ∙ on_no_rows) in
      absurd (omega (arith, same))

  pub writing_nothing_is_shut_out : ((call : Call) → responses-after call ≡ call.responses) → ⊥
  unfolding sheet_one
  writing_nothing_is_shut_out nothing =
      let same : ◌≡◌ {A = ℕ} 0 10 = ap (λ (list : List ℕ). get_or list 0 0) (sym (nothing sheet_one) ∙ on_sheet_one.same_responses) in
      absurd (omega (arith, same))

  pub allowances_always_0_are_shut_out : ((call : Call) (i : ℕ) → i < length call.c → answer call ≡ returned 0 0 → get_or (allowances-after call) i 0 ≡ 0) → ⊥
  unfolding sheet_one the_four
  allowances_always_0_are_shut_out always =
      let same : ◌≡◌ {A = ℕ} 0 21 = sym (always sheet_one 0 (omega arith) on_sheet_one.same_answer) ∙ ap (λ (list : List ℕ). get_or list 0 0) on_sheet_one.same_allowances in
      absurd (omega (arith, same))
