-- The law that turns the test of a sheet into what the sheet says.
use mathlib.Core.Path.{◌≡◌, refl, sym, ap, ◌∙◌, subst}
use Prim.Native.Nat.{ℕ, zero, suc, ◌≤◌, ◌<◌, zero-le}
use mathlib.Core.Bool.{Bool, ◌&&◌, ◌||◌, not}
use mathlib.Core.Logic.{◌⊎◌, inl, inr, ⊎_elim}
use mathlib.Core.List.{List, [], ◌∷◌, map, Memᴰ}
use native.Mathlib.Omega.{arith}
use native.Mathlib.Nat.{zero-add}
use lib.Dec.{T, leb, ltb, eqb, leb→le, ltb→lt, eqb→eq, T_not}
use lib.IntN.{ℤ}
use lib.ListN.{length, length-map}
use lib.Signed.{le_z}
use Rattle.theory.specs.Returned.{Returned, returned}
use Rattle.theory.specs.Row.{Row, row_at, within_limits, AllWithin}
use Rattle.theory.specs.Gather.{every}
use Rattle.theory.specs.Rank.{places, above}
use Rattle.theory.specs.Response.{Outcome, responds, misses, IsOutcome, IsResponse, Meets, AllMeet, FirstMiss, in_time, outcome, on_time}
use Rattle.theory.specs.Allowance.{IsAllowance}
use Rattle.theory.specs.Points.{allowance}
use Rattle.theory.specs.Lists.{Shaped, ForEach, filled, rows_of, SetAnswered, accepted, row_misses}
use Rattle.theory.proofs.Tests.{and_first, and_second, or_cases}
use Rattle.theory.proofs.Each.{true_of, every_all}
use Rattle.theory.proofs.Member.{all_at, mem_up_from, at_map_up_from, length_up_from}
use Rattle.theory.proofs.Limits.{passing_keeps_limits}
use Rattle.theory.proofs.Response.{outcome_right}
use Rattle.theory.proofs.Verdict.{within_steady}
use Rattle.theory.proofs.Signed.{≤ℤ-antisymm}
use Rattle.theory.proofs.Allowance.{allowance_is}
use Rattle.theory.proofs.CoreAllowance.{on_time_meets}
use Rattle.theory.proofs.Lists.{services_agree}
use Rattle.placement.specs.Computed.{response_of}
use Rattle.placement.proofs.Computed.{response_of_is}
use Rattle.sheets.specs.Sheets.{executions, deadlines, periods, BothAnswer}
use Rattle.sheets.proofs.Columns.{rows_of_columns}
use Rattle.sheets.proofs.Test.{same_list, same_signed, one_of, is_set, misses_first, refuses_late}

-- ---- the parts of the tests

pub same_list_lem : (xs ys : List ℕ) → T (same_list xs ys) → xs ≡ ys
unfolding same_list
same_list_lem [] [] t = refl
same_list_lem [] (y ∷ ys) t = absurd t
same_list_lem (x ∷ xs) [] t = absurd t
same_list_lem (x ∷ xs) (y ∷ ys) t =
    ap (λ (z : ℕ). z ∷ xs) (eqb→eq x y (and_first (eqb x y) (same_list xs ys) t)) ∙ ap (λ (zs : List ℕ). y ∷ zs) (same_list_lem xs ys (and_second (eqb x y) (same_list xs ys) t))

pub same_signed_lem : (y z : ℤ) → T (same_signed y z) → y ≡ z
same_signed_lem y z t = ≤ℤ-antisymm y z (record { le = and_first (le_z y z) (le_z z y) t }) (record { le = and_second (le_z y z) (le_z z y) t })

pub one_of_lem : (xs : List ℕ) (n : ℕ) → T (one_of xs n) → Memᴰ n xs
unfolding one_of
one_of_lem [] n t = absurd t
one_of_lem (x ∷ xs) n t = go (one_of_lem xs n) (or_cases (eqb n x) (one_of xs n) t)
  where
    go : (T (one_of xs n) → Memᴰ n xs) → T (eqb n x) ⊎ T (one_of xs n) → Memᴰ n (x ∷ xs)
    go further (inl e) = Memᴰ.head (eqb→eq n x e)
    go further (inr m) = Memᴰ.tail (further m)

-- what holds of each place of a set, by a test of each
pub each_place : (test : ℕ → Bool) (rows : List Row) → T (every test (places rows)) → (k : ℕ) → k < length rows → T (test k)
each_place test rows t k h = all_at (λ x. T (test x)) (mem_up_from 0 (length rows) k zero-le (omega arith)) (every_all test (places rows) t)

-- ---- the first row in rank that misses, of any rows that run

module _ (rows : List Row) (runs : (k : ℕ) → k < length rows → 1 ≤ (row_at rows k).C) where
  -- an outcome in time is one that meets, and another is one that misses
  in_time_meets : (k : ℕ) (o : Outcome) → IsOutcome rows k o → T (in_time o) → Meets rows k
  in_time_meets k (responds R) is i = record { response = R; is_response = is.0; by_deadline = is.1 }
  in_time_meets k misses is i = absurd i

  late_misses : (k : ℕ) (o : Outcome) → IsOutcome rows k o → T (not (in_time o)) → Meets rows k → ⊥
  late_misses k (responds R) is l m = l
  late_misses k misses is l m = is m

  pub first_miss : (k : ℕ) → T (misses_first rows k) → FirstMiss rows k
  unfolding misses_first
  first_miss k misses-first = record {
    in_set = inside;
    misses = late_misses k (outcome rows k) (outcome_right rows k (runs k inside)) (and_first late above_in_time tests);
    above_meet = λ h in_set ranks.
        in_time_meets h (outcome rows h) (outcome_right rows h (runs h in_set))
        (⊎_elim
        (λ n. absurd (T_not (above rows h k) n ranks))
        (λ i. i)
        (or_cases (not (above rows h k)) (in_time (outcome rows h)) (each_place (λ x. not (above rows x k) || in_time (outcome rows x)) rows (and_second late above_in_time tests) h in_set)));
  }
    where
      late : Bool
      late = not (in_time (outcome rows k))

      above_in_time : Bool
      above_in_time = every (λ h. not (above rows h k) || in_time (outcome rows h)) (places rows)

      inside : k < length rows
      inside = ltb→lt k (length rows) (and_first (ltb k (length rows)) (late && above_in_time) misses-first)

      tests : T (late && above_in_time)
      tests = and_second (ltb k (length rows)) (late && above_in_time) misses-first

  -- what is returned with refusal 8, for each row that may be the first, is returned with a number and a row that pass
  pub refused_late : (Answer : Returned → Type 0) → ((k : ℕ) → FirstMiss rows k → Answer (returned 8 (suc k)))
      → (number row : ℕ)
      → T (refuses_late rows number row)
      → Answer (returned number row)
  unfolding refuses_late
  refused_late Answer each number zero t = absurd t
  refused_late Answer each number (suc k) t =
      subst (λ (n : ℕ). Answer (returned n (suc k))) (eqb→eq 8 number (and_first (eqb 8 number) (misses_first rows k) t))
      (each k (first_miss k (and_second (eqb 8 number) (misses_first rows k) t)))

-- ---- one set

module _ (rows : List Row) (t : T (is_set rows)) where
  abbrev sized : Bool
  sized = leb 1 (length rows) && leb (length rows) 24

  abbrev limits : Bool
  limits = every (λ k. within_limits (row_at rows k)) (places rows)

  pub set_within : AllWithin rows
  unfolding is_set
  set_within k h = passing_keeps_limits (row_at rows k) (true_of (within_limits (row_at rows k)) (each_place (λ x. within_limits (row_at rows x)) rows (and_second sized limits t) k h))

  pub set_some : 1 ≤ length rows
  unfolding is_set
  set_some = leb→le 1 (length rows) (and_first (leb 1 (length rows)) (leb (length rows) 24) (and_first sized limits t))

  pub set_no_25th : length rows ≤ 24
  unfolding is_set
  set_no_25th = leb→le (length rows) 24 (and_second (leb 1 (length rows)) (leb (length rows) 24) (and_first sized limits t))

  pub set_shaped : Shaped (executions rows) (deadlines rows) (periods rows)
  set_shaped =
      record {
        some_row = omega (arith, set_some, length-map rows (λ (row : Row). row.C));
        no_25th = omega (arith, set_no_25th, length-map rows (λ (row : Row). row.C));
        as_many_deadlines = length-map rows (λ row. row.D) ∙ sym (length-map rows (λ row. row.C));
        as_many_periods = length-map rows (λ row. row.T) ∙ sym (length-map rows (λ row. row.C));
      }

  -- the same of the rows that the three lists are
  abbrev given : List Row
  given = rows_of (executions rows) (deadlines rows) (periods rows)

  pub carried : (P : List Row → Type 0) → P rows → P given
  carried P p = subst P (sym (rows_of_columns rows)) p

  -- where one service gives an answer on long enough lists, both do
  both_answer : (returns : Returned) (first second : List ℕ → List ℕ)
      → ((responses allowances : List ℕ)
      → length (executions rows) ≤ length responses
      → length (executions rows) ≤ length allowances
      → SetAnswered (executions rows) (deadlines rows) (periods rows) responses allowances returns (first responses) (second allowances))
      → BothAnswer rows returns first second
  both_answer returns first second set responses allowances r a =
      let s : SetAnswered (executions rows) (deadlines rows) (periods rows) responses allowances returns (first responses) (second allowances) =
      set responses allowances (omega (arith, length-map rows (λ (row : Row). row.C))) (omega (arith, length-map rows (λ (row : Row). row.C))) in
      (s, (services_agree (executions rows) (deadlines rows) (periods rows) responses allowances).0 s)

  -- numbers computed for each place are numbers for each row
  computed_for_each : (f : ℕ → ℕ) (Right : ℕ → ℕ → Type 0) → ((k : ℕ) → k < length rows → Right k (f k)) → ForEach rows Right (map f (places rows))
  computed_for_each f Right right = record {
    one_each = length-map (places rows) f ∙ length_up_from 0 (length rows);
    right = λ k h. subst (Right k) (sym (at_map_up_from f 0 (length rows) k 0 h ∙ ap f (zero-add k))) (right k h);
  }

  abbrev responding : ℕ → ℕ
  responding k = response_of (outcome rows k)

  pub accepted_holds : (responses allowances : List ℕ)
      → T (on_time rows)
      → map responding (places rows) ≡ responses
      → map (allowance rows) (places rows) ≡ allowances
      → BothAnswer rows (returned 0 0) (filled responses) (filled allowances)
  accepted_holds responses allowances on-time e f =
      both_answer (returned 0 0) (filled responses) (filled allowances)
      (λ rs ls r a.
      accepted responses allowances set_shaped (carried AllWithin set_within) r a (carried AllMeet all)
      (carried (λ rows. ForEach rows (IsResponse rows) responses) (subst (ForEach rows (IsResponse rows)) e (computed_for_each responding (IsResponse rows) (λ k h. response_of_is rows k (outcome rows k) (outcome_right rows k (set_within k h).runs) (all k h)))))
      (carried (λ rows. ForEach rows (IsAllowance rows) allowances) (subst (ForEach rows (IsAllowance rows)) f (computed_for_each (allowance rows) (IsAllowance rows) (λ k h. allowance_is rows (within_steady rows set_within) k h all)))))
    where
      all : AllMeet rows
      all = on_time_meets rows (within_steady rows set_within) on-time

  pub misses_holds : (number row : ℕ) → T (refuses_late rows number row) → BothAnswer rows (returned number row) (λ before. before) (λ before. before)
  misses_holds =
      refused_late rows (λ k h. (set_within k h).runs) (λ (r : Returned). BothAnswer rows r (λ before. before) (λ before. before))
      (λ k first.
      both_answer (returned 8 (suc k)) (λ before. before) (λ before. before)
      (λ rs ls r a. row_misses k set_shaped (carried AllWithin set_within) r a (carried (λ rows. FirstMiss rows k) first)))
