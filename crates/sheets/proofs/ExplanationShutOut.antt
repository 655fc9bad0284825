-- Versions of the explanation that its promise shuts out: document 02, request 1. Two of its sheets do it, and a set whose first row limits itself.
use mathlib.Core.Path.{◌≡◌, sym, ◌∙◌}
use Prim.Native.Nat.{ℕ, suc, ◌<◌}
use mathlib.Core.Bool.{not}
use mathlib.Core.List.{List, [], ◌∷◌, reverse}
use native.Mathlib.Omega.{arith}
use lib.Dec.{T, T_not}
use lib.ListN.{length}
use lib.Signed.{le_z, ◌≤ℤ◌}
use Rattle.theory.specs.Returned.{Returned, returned}
use Rattle.theory.specs.Row.{Row}
use Rattle.theory.specs.Gather.{up_from, keep, sum, every, First, insert, sort, best}
use Rattle.theory.specs.Rank.{above, rivals, levels}
use Rattle.theory.specs.Response.{ceil, demand, load, climb, outcome, on_time, Meets}
use Rattle.theory.specs.Allowance.{raised}
use Rattle.theory.specs.Points.{last_multiple, walk, points, slack, floor_div, times, quotient, bound, point_allowance, allowance, IsBound}
use Rattle.theory.specs.Explanation.{Explained}
use Rattle.theory.proofs.Response.{outcome_right}
use Rattle.theory.proofs.Explained.{SameExplanation, explained_unique}
use Rattle.sheets.specs.Sheets.{limited_by, executions, deadlines, periods, row, the_four}
use Rattle.sheets.proofs.Test.{is_set, misses_first, is_first, greatest_at, limited_at, passes}
use Rattle.sheets.proofs.Law.{each_place}
use Rattle.sheets.proofs.Explanation.{first_greatest}
use Rattle.sheets.proofs.Sheets.{sheet_holds}

-- what the explanation is asked: three lists and the number of a row
pub record Question : Type 0 where
  pub c : List ℕ
  pub d : List ℕ
  pub t : List ℕ
  pub row : ℕ

-- these rows, and the number of one
abbrev pub asked : List Row → ℕ → Question
asked rows number = record { c = executions rows; d = deadlines rows; t = periods rows; row = number }

-- with one more than its allowance in row i, row k is the lowest in rank that misses
pub record LowestMiss (rows : List Row) (i k : ℕ) : Type 0 where
  pub misses : Meets (raised rows i (suc (allowance rows i))) k → ⊥
  pub below_meet : (h : ℕ) → h < length rows → T (above rows k h) → Meets (raised rows i (suc (allowance rows i))) h

-- no row has a smaller greatest slack than row k
abbrev pub SmallestSlack : List Row → ℕ → Type 0
SmallestSlack rows k = (h : ℕ) → h < length rows → bound rows k k ≤ℤ bound rows h h

-- the last point in row k's walk with its greatest quotient for row i
abbrev pub LastGreatest : List Row → ℕ → ℕ → ℕ → Type 0
LastGreatest rows i k p = First (λ q. IsBound rows k i (quotient rows k i q)) (reverse (points rows k)) p

-- row 2 limits row 1, with its greatest quotient at 3 and at 5
abbrev two_points : List Row
two_points = row 1 3 3 ∷ row 2 5 5 ∷ []

-- row 1 limits itself, above another
abbrev no_room_rows : List Row
no_room_rows = row 1 1 2 ∷ row 1 2 2 ∷ []

-- what limits row 1 of each, computed, and the last point in place of the first
known : T (passes (limited_by the_four 1 4 200))
    × T (passes (limited_by two_points 1 2 3))
    × T (passes (limited_by no_room_rows 1 1 1))
    × T (is_first (greatest_at two_points 1 0) (reverse (points two_points 1)) 5)
unfolding row the_four passes is_set misses_first is_first limited_at up_from keep sum every insert sort best rivals levels ceil demand load climb outcome on_time last_multiple walk points slack floor_div times quotient bound point_allowance allowance
known = (tt, tt, tt, tt)

-- with one tick more in row 1 both of those rows miss, and the second is the lowest
second_misses : LowestMiss no_room_rows 0 1
unfolding row up_from keep sum every insert sort best rivals levels ceil demand load climb outcome last_multiple walk points slack floor_div times quotient bound point_allowance allowance
second_misses = record {
  misses = outcome_right (raised no_room_rows 0 (suc (allowance no_room_rows 0))) 1 (omega arith);
  below_meet = λ h in_set t. absurd (T_not (above no_room_rows 1 h) (each_place (λ x. not (above no_room_rows 1 x)) no_room_rows tt h in_set) t);
}

-- of the four the first row has the smallest slack
first_of_the_four : SmallestSlack the_four 0
unfolding row the_four up_from keep sum every insert sort best rivals levels ceil demand load last_multiple walk points slack floor_div times quotient bound
first_of_the_four h in_set = record { le = each_place (λ x. le_z (bound the_four 0 0) (bound the_four x x)) the_four tt h in_set }

-- a version of the explanation that keeps its promise on every question
module _ (answer : Question → Returned) (limiting point : Question → ℕ)
    (keeps : (question : Question) → Explained question.c question.d question.t question.row (answer question) (limiting question) (point question)) where
  -- it explains a row
  abbrev Explains : Question → Type 0
  Explains question = answer question ≡ returned 0 0

  -- WHERE A ROW IS KNOWN TO BE LIMITED, THE EXPLANATION IS KNOWN
  on_limited : (rows : List Row) (number k p : ℕ) → T (passes (limited_by rows number k p))
      → SameExplanation (answer (asked rows number)) (returned 0 0) (limiting (asked rows number)) k (point (asked rows number)) p
  on_limited rows number k p t =
      explained_unique (executions rows) (deadlines rows) (periods rows) number (keeps (asked rows number)) (sheet_holds (limited_by rows number k p) t)

  pub naming_the_row_itself_is_shut_out : ((question : Question) → Explains question → limiting question ≡ question.row) → ⊥
  naming_the_row_itself_is_shut_out itself =
      let right = on_limited the_four 1 4 200 known.0 in
      let same : ◌≡◌ {A = ℕ} 1 4 = sym (itself (asked the_four 1) right.same_answer) ∙ right.same_row in
      absurd (omega (arith, same))

  pub naming_the_lowest_row_that_misses_is_shut_out : ((rows : List Row) (i k : ℕ) → Explains (asked rows (suc i)) → LowestMiss rows i k → limiting (asked rows (suc i)) ≡ suc k) → ⊥
  naming_the_lowest_row_that_misses_is_shut_out lowest =
      let right = on_limited no_room_rows 1 1 1 known.2 in
      let same : ◌≡◌ {A = ℕ} 2 1 = sym (lowest no_room_rows 0 1 right.same_answer second_misses) ∙ right.same_row in
      absurd (omega (arith, same))

  pub naming_the_smallest_slack_is_shut_out : ((rows : List Row) (number k : ℕ) → Explains (asked rows number) → SmallestSlack rows k → limiting (asked rows number) ≡ suc k) → ⊥
  naming_the_smallest_slack_is_shut_out smallest =
      let right = on_limited the_four 1 4 200 known.0 in
      let same : ◌≡◌ {A = ℕ} 1 4 = sym (smallest the_four 1 0 right.same_answer first_of_the_four) ∙ right.same_row in
      absurd (omega (arith, same))

  pub giving_the_last_point_is_shut_out :
      ((rows : List Row) (i k p : ℕ) → Explains (asked rows (suc i)) → limiting (asked rows (suc i)) ≡ suc k → LastGreatest rows i k p → point (asked rows (suc i)) ≡ p) → ⊥
  giving_the_last_point_is_shut_out last =
      let right = on_limited two_points 1 2 3 known.1 in
      let same : ◌≡◌ {A = ℕ} 5 3 = sym (last two_points 0 1 5 right.same_answer right.same_row (first_greatest two_points 1 0 (reverse (points two_points 1)) 5 known.3)) ∙ right.same_point in
      absurd (omega (arith, same))
