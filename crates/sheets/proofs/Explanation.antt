-- What the sheets on the explanation say, from the computed allowance, outcomes and quotients.
use mathlib.Core.Path.{◌≡◌, refl, sym, subst}
use Prim.Native.Nat.{ℕ, zero, suc, ◌<◌}
use mathlib.Core.Bool.{Bool, true, false, ◌&&◌}
use mathlib.Core.Logic.{◌⊎◌, inl, inr}
use mathlib.Core.List.{List, [], ◌∷◌}
use native.Mathlib.Omega.{arith}
use borrow.Author.Tests.{ltb-true, ltb-false}
use lib.Dec.{T, ltb, eqb, ltb→lt, eqb→eq}
use lib.IntN.{ℤ}
use lib.ListN.{length, length-map}
use lib.Signed.{le_z, ≤ℤ_refl}
use Rattle.theory.specs.Returned.{Returned, returned}
use Rattle.theory.specs.Gather.{First}
use Rattle.theory.specs.Row.{Row, AllWithin}
use Rattle.theory.specs.Response.{AllMeet, FirstMiss, on_time}
use Rattle.theory.specs.Allowance.{raised}
use Rattle.theory.specs.Points.{points, quotient, bound, allowance, IsBound}
use Rattle.theory.specs.Explanation.{LimitedBy, Explained, row_not_in_set, row_misses, limited}
use Rattle.theory.proofs.Tests.{and_both, and_first, and_second}
use Rattle.theory.proofs.Verdict.{AllSteady, within_steady}
use Rattle.theory.proofs.Bound.{bound_is, bound_unique}
use Rattle.theory.proofs.Allowance.{raised_steady, allowance_is}
use Rattle.theory.proofs.CoreAllowance.{on_time_meets}
use Rattle.sheets.specs.Sheets.{executions, deadlines, periods}
use Rattle.sheets.proofs.Test.{same_signed, is_set, misses_first, refuses_late, is_first, greatest_at, limited_at, why_is_refused}
use Rattle.sheets.proofs.Law.{same_signed_lem, first_miss, refused_late, set_within, set_shaped, carried}

-- the first of a list that passes a test is the first of which holds what the test decides
pub is_first_lem : (P : ℕ → Type 0) (test : ℕ → Bool) → ((x : ℕ) → T (test x) → P x) → ((x : ℕ) → P x → T (test x))
    → (xs : List ℕ) (p : ℕ)
    → T (is_first test xs p)
    → First P xs p
unfolding is_first
is_first_lem P test right passes [] p t = absurd t
is_first_lem P test right passes (x ∷ xs) p t = go (test x) (right x) (passes x) (is_first_lem P test right passes xs p) t
  where
    go : (b : Bool) → (T b → P x) → (P x → T b) → (T (is_first test xs p) → First P xs p)
        → T (elim b [ true ↦ eqb x p | false ↦ is_first test xs p ])
        → First P (x ∷ xs) p
    go true holds fails further s = inl (eqb→eq x p s, holds tt)
    go false holds fails further s = inr (fails, further s)

-- the first of a list with the greatest quotient
pub first_greatest : (rows : List Row) (k i : ℕ) (xs : List ℕ) (p : ℕ) → T (is_first (greatest_at rows k i) xs p) → First (λ q. IsBound rows k i (quotient rows k i q)) xs p
first_greatest rows k i =
    is_first_lem (λ q. IsBound rows k i (quotient rows k i q)) (greatest_at rows k i)
    (λ q t. subst (IsBound rows k i) (sym (same_signed_lem (quotient rows k i q) (bound rows k i) t)) (bound_is rows k i))
    (λ q b.
    subst (λ (z : ℤ). T (same_signed (quotient rows k i q) z)) (bound_unique rows k i (quotient rows k i q) (bound rows k i) b (bound_is rows k i))
    (and_both (le_z (quotient rows k i q) (quotient rows k i q)) (le_z (quotient rows k i q) (quotient rows k i q)) (≤ℤ_refl (quotient rows k i q)).le (≤ℤ_refl (quotient rows k i q)).le))

module _ (rows : List Row) (t : T (is_set rows)) where
  abbrev Result : ℕ → Returned → ℕ → ℕ → Type 0
  Result = Explained (executions rows) (deadlines rows) (periods rows)

  steady : AllSteady rows
  steady = within_steady rows (set_within rows t)

  -- a row of the set is one of its first list
  as_many : {i : ℕ} → i < length rows → i < length (executions rows)
  as_many h = omega (arith, length-map rows (λ (row : Row). row.C))

  pub limited_holds : (row limiting p : ℕ) → T (limited_at rows row limiting p) → Result row (returned 0 0) limiting p
  unfolding limited_at
  limited_holds zero limiting p s = absurd s
  limited_holds (suc i) zero p s = absurd s
  limited_holds (suc i) (suc k) p s =
      limited i k p (set_shaped rows t) (carried rows t AllWithin (set_within rows t)) refl (as_many inside) (carried rows t AllMeet all) (carried rows t (λ rows. LimitedBy rows i k p) limits)
    where
      late : Bool
      late = misses_first (raised rows i (suc (allowance rows i))) k

      first : Bool
      first = is_first (greatest_at rows k i) (points rows k) p

      all : AllMeet rows
      all = on_time_meets rows steady (and_first (on_time rows) (ltb i (length rows) && (late && first)) s)

      after : T (ltb i (length rows) && (late && first))
      after = and_second (on_time rows) (ltb i (length rows) && (late && first)) s

      inside : i < length rows
      inside = ltb→lt i (length rows) (and_first (ltb i (length rows)) (late && first) after)

      reason : T (late && first)
      reason = and_second (ltb i (length rows)) (late && first) after

      limits : LimitedBy rows i k p
      limits = record {
        allowance = allowance rows i;
        is_allowance = allowance_is rows steady i inside all;
        first_to_miss = first_miss (raised rows i (suc (allowance rows i))) (λ h l. (raised_steady rows steady i inside (suc (allowance rows i)) h l).runs) k (and_first late first reason);
        first_greatest = first_greatest rows k i (points rows k) p (and_second late first reason);
      }

  -- where a row is not in the set, a number and a row that are 10 and 0
  not_in_set : (asked : ℕ) → (asked ≡ 0) ⊎ (length rows < asked) → (number row : ℕ) → T (eqb 10 number && eqb 0 row) → Result asked (returned number row) 0 0
  not_in_set asked outside number row s =
      let ten = eqb→eq 10 number (and_first (eqb 10 number) (eqb 0 row) s) in
      let no_row = eqb→eq 0 row (and_second (eqb 10 number) (eqb 0 row) s) in
      subst (λ (r : Returned). Result asked r 0 0) (cc)
      (row_not_in_set (set_shaped rows t) (carried rows t AllWithin (set_within rows t)) (subst (λ (n : ℕ). (asked ≡ 0) ⊎ (n < asked)) (sym (length-map rows (λ (row : Row). row.C))) outside))

  pub why_refused_holds : (asked number row : ℕ) → T (why_is_refused rows asked number row) → Result asked (returned number row) 0 0
  unfolding why_is_refused
  why_refused_holds zero number row s = not_in_set 0 (inl refl) number row s
  why_refused_holds (suc i) number row s = go (ltb i (length rows)) refl s
    where
      go : (b : Bool) → ltb i (length rows) ≡ b
          → T (elim b [ true ↦ refuses_late rows number row | false ↦ eqb 10 number && eqb 0 row ])
          → Result (suc i) (returned number row) 0 0
      go true e r =
          refused_late rows (λ k h. (set_within rows t k h).runs) (λ (returns : Returned). Result (suc i) returns 0 0)
          (λ k first. row_misses i k (set_shaped rows t) (carried rows t AllWithin (set_within rows t)) refl (as_many (ltb-true i (length rows) e)) (carried rows t (λ rows. FirstMiss rows k) first))
          number row r
      go false e r = not_in_set (suc i) (inr (omega (arith, ltb-false i (length rows) e))) number row r
