-- From one stage of the list services to the next, and the answer that each comes to.
use mathlib.Core.Path.{◌≡◌, refl, sym, ap, subst, ◌∙◌}
use Prim.Native.Nat.{ℕ, suc, ◌≤◌, ◌<◌}
use mathlib.Core.List.{List}
use native.Mathlib.Omega.{arith}
use lib.ListN.{length, get_or, take}
use Rattle.std.proofs.Common.{Ok, Err}
use Rattle.std.specs.Prelude.{Result}
use Rattle.answers.specs.declared.Refusal.{Refusal}
use Rattle.answers.specs.declared.Refusal.TheVariants.{RowMisses}
use Rattle.answers.specs.Answer.{refused_with, number_of}
use Rattle.answers.proofs.Refused.{number_not_0}
use Rattle.theory.specs.Returned.{returned}
use Rattle.theory.specs.Row.{Row, AllWithin}
use Rattle.theory.specs.Response.{FirstMiss, IsResponse, AllMeet}
use Rattle.theory.specs.Lists.{rows_of, Shaped, Answered, filled}
use Rattle.theory.specs.Lists as lists
use Rattle.rows.specs.declared.Rows.{Rows}
use Rattle.rows.specs.Values.{rows_in}
use Rattle.climbs.proofs.InLists.{in_lists, in_rows, front_for_each}
use Rattle.responses.specs.InTime.{RespondsInTime}
use Rattle.climbs.specs.Ranking.{ranking_by}
use Rattle.responses.proofs.Meeting.{in_time_meets, timed_meet}
use Rattle.refusals.specs.Checked.{Checked}
use Rattle.refusals.specs.Checked as checks
use Rattle.responses.specs.declared.timed.Timed.{Timed}
use Rattle.sets.specs.Stages.{IsTimed}
use Rattle.sets.specs.Stages as stage

-- a row that misses is one of at most 24, and is refused by its number
module _ (rows : Rows) {k : ℕ} (first : FirstMiss (rows_in rows) k) where
  pub misses_in_set : k < 24
  misses_in_set =
      let inside = in_lists rows.c.now rows.d.now rows.t.now rows.shaped first.in_set in
      omega (arith, rows.shaped.no_25th)

  pub miss_refused : {number : ℕ} → number ≡ suc k → IsTimed rows (Err (RowMisses number))
  miss_refused its_number = rw its_number (stage.row_misses k first)

-- what passed the checks, as rows and as the lists that they are
pub record Passed (cs ds ts : List ℕ) (responses allowances : ℕ) (rows : Rows) : Type 0 where
  pub same_rows : rows_in rows ≡ rows_of cs ds ts
  pub same_length : length rows.c.now ≡ length cs
  pub shaped : Shaped cs ds ts
  pub within : AllWithin (rows_of cs ds ts)
  pub responses_fit : length cs ≤ responses
  pub allowances_fit : length cs ≤ allowances

pub checks_pass : {cs ds ts : List ℕ} {responses allowances : ℕ} {rows : Rows} → Checked cs ds ts responses allowances (Ok rows) → Passed cs ds ts responses allowances rows
checks_pass (checks.passed rows c d t p q) = record {
  same_rows = rw (c, d, t) refl;
  same_length = ap length c;
  shaped = rw (← c, ← d, ← t) rows.shaped;
  within = rw (← c, ← d, ← t) rows.within;
  responses_fit = p;
  allowances_fit = q;
}

-- where the number of their answer is 0, they have passed
pub checks_passed : {cs ds ts : List ℕ} {responses allowances : ℕ} {a : Result Rows Refusal} {n : ℕ} → Checked cs ds ts responses allowances a → n ≡ number_of a → n ≡ 0
    → (rows : Rows) × Passed cs ds ts responses allowances rows
checks_passed {a = Ok rows} said number none = (rows, checks_pass said)
checks_passed {a = Err refusal} said number none = absurd (number_not_0 refusal (sym number ∙ none))

-- what the trials ask of a set that is on time, and what the points ask
module _ (timed : Timed) where
  abbrev rows : Rows
  rows = timed.set.now.rows

  pub trials_may_follow :
      (Shaped rows.c.now rows.d.now rows.t.now × AllWithin (rows_in rows))
      × (take (length rows.d.now) timed.set.now.order ≡ ranking_by rows.d.now)
      × ((k : ℕ) → k < length rows.c.now → RespondsInTime (rows_in rows) timed.response k)
  trials_may_follow = ((rows.shaped, rows.within), timed.set.now.ranked, timed.in_time)

  pub points_may_follow :
      (Shaped rows.c.now rows.d.now rows.t.now × AllWithin (rows_in rows)) × (take (length rows.d.now) timed.set.now.order ≡ ranking_by rows.d.now) × AllMeet (rows_in rows)
  points_may_follow = ((rows.shaped, rows.within), timed.set.now.ranked, timed_meet timed)

pub timed_same : {rows : Rows} {timed : Timed} → IsTimed rows (Ok timed) → timed.set.now.rows ≡ rows
timed_same (stage.rows_in_time timed same) = same

-- the rows that responded are the rows that passed
module _ {cs ds ts : List ℕ} {responses allowances : ℕ} {rows : Rows} (passed : Passed cs ds ts responses allowances rows) (timed : Timed) (same : timed.set.now.rows ≡ rows) where
  pub as_lists : rows_in timed.set.now.rows ≡ rows_of cs ds ts
  as_lists = ap rows_in same ∙ passed.same_rows

  pub as_many : length timed.set.now.rows.c.now ≡ length cs
  as_many = ap (λ (held : Rows). length held.c.now) same ∙ passed.same_length

  -- and every row of the lists responds in time
  pub lists_in_time : (k : ℕ) → k < length (rows_of cs ds ts) → RespondsInTime (rows_of cs ds ts) timed.response k
  lists_in_time k inside =
      subst (λ (held : List Row). RespondsInTime held timed.response k) as_lists (timed.in_time k (omega (arith, as_many, in_lists cs ds ts passed.shaped inside)))

module _ (Allowance : List Row → ℕ → ℕ → Type 0) {cs ds ts responses allowances : List ℕ} where
  -- a refusal leaves both lists as they were: by the checks
  pub checks_answered : {refusal : Refusal} → Checked cs ds ts (length responses) (length allowances) (Err refusal)
      → Answered Allowance cs ds ts responses allowances (refused_with refusal) responses allowances
  checks_answered (checks.rows_out_of_range n) = lists.rows_out_of_range n
  checks_answered (checks.row_breaks_limits k shaped first) = lists.row_breaks_limits k shaped first
  checks_answered (checks.output_too_short shaped within short) = lists.output_too_short shaped within short

  module _ {rows : Rows} (passed : Passed cs ds ts (length responses) (length allowances) rows) where
    -- and for a row that misses
    pub miss_answered : {refusal : Refusal} → IsTimed rows (Err refusal) → Answered Allowance cs ds ts responses allowances (refused_with refusal) responses allowances
    miss_answered (stage.row_misses k first) = lists.row_misses k passed.shaped passed.within passed.responses_fit passed.allowances_fit (rw (← passed.same_rows) first)

    -- with an allowance for each row the call is accepted
    pub found_answered : {timed : Timed} (found : List ℕ) → IsTimed rows (Ok timed)
        → length found ≡ 24
        → ((i : ℕ) → i < length timed.set.now.rows.c.now → Allowance (rows_in timed.set.now.rows) i (get_or found i 0))
        → Answered Allowance cs ds ts responses allowances (returned 0 0) (filled (take (length cs) timed.response) responses) (filled (take (length cs) found) allowances)
    found_answered {timed} found timely long each =
        let same : timed.set.now.rows ≡ rows = timed_same timely in
        let in_time = lists_in_time passed timed same in
        lists.accepted (take (length cs) timed.response) (take (length cs) found) passed.shaped passed.within passed.responses_fit passed.allowances_fit
        (λ k inside. in_time_meets (in_time k inside))
        (front_for_each cs ds ts passed.shaped (IsResponse (rows_of cs ds ts)) timed.response timed.long (λ k h. (in_time k (in_rows cs ds ts passed.shaped h)).is_response))
        (front_for_each cs ds ts passed.shaped (Allowance (rows_of cs ds ts)) found long
        (λ k h. subst (λ (held : List Row). Allowance held k (get_or found k 0)) (as_lists passed timed same) (each k (omega (arith, as_many passed timed same)))))
