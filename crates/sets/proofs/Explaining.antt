-- The explanation, from one stage to the next: refused by the checks, for a number that is no row's, for a row that misses, or the limiting row and the point.
use mathlib.Core.Path.{◌≡◌, subst}
use Prim.Native.Nat.{ℕ, suc, ◌-◌, ◌≤◌, ◌<◌}
use mathlib.Core.Logic.{◌⊎◌, ⊎_elim}
use mathlib.Core.List.{List}
use native.Mathlib.Omega.{arith}
use lib.ListN.{length}
use Rattle.std.proofs.Common.{Ok, Err}
use Rattle.answers.specs.declared.Refusal.{Refusal}
use Rattle.answers.specs.Answer.{refused_with}
use Rattle.theory.specs.Returned.{returned}
use Rattle.theory.specs.Row.{Row}
use Rattle.theory.specs.Explanation.{LimitedBy, Explained}
use Rattle.theory.specs.Explanation as promise
use Rattle.rows.specs.declared.Rows.{Rows}
use Rattle.rows.specs.Values.{rows_in}
use Rattle.responses.proofs.Meeting.{in_time_meets}
use Rattle.refusals.specs.Checked.{Checked}
use Rattle.refusals.specs.Checked as checks
use Rattle.responses.specs.declared.timed.Timed.{Timed}
use Rattle.sets.specs.Stages.{IsTimed}
use Rattle.sets.specs.Stages as stage
use Rattle.sets.proofs.Stages.{Passed, timed_same, as_lists, lists_in_time}

module _ {cs ds ts : List ℕ} {row : ℕ} where
  -- the checks refuse
  pub checks_unexplained : {refusal : Refusal} → Checked cs ds ts (length cs) (length cs) (Err refusal) → Explained cs ds ts row (refused_with refusal) 0 0
  checks_unexplained (checks.rows_out_of_range n) = promise.rows_out_of_range n
  checks_unexplained (checks.row_breaks_limits k shaped first) = promise.row_breaks_limits k shaped first
  checks_unexplained (checks.output_too_short shaped within short) = absurd (⊎_elim (λ (h : length cs < length cs). omega arith) (λ (h : length cs < length cs). omega arith) short)

  module _ {rows : Rows} (passed : Passed cs ds ts (length cs) (length cs) rows) where
    -- the number is no row's
    pub no_such_row : (row ≡ 0) ⊎ (length cs < row) → Explained cs ds ts row (returned 10 0) 0 0
    no_such_row outside = promise.row_not_in_set passed.shaped passed.within outside

    module _ (from_one : 1 ≤ row) (up_to_last : row - 1 < length cs) where
      its_place : row ≡ suc (row - 1)
      its_place = omega arith

      -- a row misses
      pub miss_unexplained : {refusal : Refusal} → IsTimed rows (Err refusal) → Explained cs ds ts row (refused_with refusal) 0 0
      miss_unexplained (stage.row_misses k first) = promise.row_misses (row - 1) k passed.shaped passed.within its_place up_to_last (rw (← passed.same_rows) first)

      -- every row meets, and one limits
      pub limit_explained : {timed : Timed} {k p number : ℕ} → IsTimed rows (Ok timed) → LimitedBy (rows_in timed.set.now.rows) (row - 1) k p → number ≡ suc k → Explained cs ds ts row (returned 0 0) number p
      limit_explained {timed} {k} {p} timely limited its_number =
          let same : timed.set.now.rows ≡ rows = timed_same timely in
          rw its_number
          (promise.limited (row - 1) k p passed.shaped passed.within its_place up_to_last
          (λ h inside. in_time_meets (lists_in_time passed timed same h inside))
          (subst (λ (held : List Row). LimitedBy held (row - 1) k p) (as_lists passed timed same) limited))
