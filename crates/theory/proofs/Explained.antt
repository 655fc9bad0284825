-- The explanation's promise determines what is returned, the limiting row and the point, and what it names is the true reason: document 02, request 1.
use mathlib.Core.Path.{◌≡◌, refl, ap, subst}
use Prim.Native.Nat.{ℕ, suc, ◌<◌}
use mathlib.Core.Logic.{◌⊎◌, inl, inr}
use mathlib.Core.List.{List}
use native.Mathlib.Omega.{arith}
use lib.ListN.{length}
use Rattle.theory.specs.Returned.{Returned, returned}
use Rattle.theory.specs.Row.{Row}
use Rattle.theory.specs.Lists.{rows_of}
use Rattle.theory.specs.Explanation.{LimitedBy, TrueReason, Explained, rows_out_of_range, row_breaks_limits, row_not_in_set, row_misses, limited}
use Rattle.theory.proofs.RowsOf.{rows_of_length}
use Rattle.theory.proofs.Verdict.{within_steady}
use Rattle.theory.proofs.Lists.{first_miss_unique, first_broken_unique, clash, late}
use Rattle.theory.proofs.Explanation.{limited_unique, limited_truly}

-- two explanations that are the same: what is returned, the limiting row and the point
pub record SameExplanation (answer other : Returned) (row other_row point other-point : ℕ) : Type 0 where
  pub same_answer : answer ≡ other
  pub same_row : row ≡ other_row
  pub same_point : point ≡ other-point

module _ (cs ds ts : List ℕ) (row : ℕ) where
  abbrev Result : Returned → ℕ → ℕ → Type 0
  Result = Explained cs ds ts row

  abbrev set : List Row
  set = rows_of cs ds ts

  refused_alike : {a b : Returned} → a ≡ b → SameExplanation a b 0 0 0 0
  refused_alike e = record { same_answer = e; same_row = refl; same_point = refl }

  -- a row is in the set or it is not
  outside : {X : Type 0} (i : ℕ) → (row ≡ 0) ⊎ (length cs < row) → row ≡ suc i → i < length cs → X
  outside i (inl none) e h = absurd (omega arith)
  outside i (inr above) e h = absurd (omega arith)

  both_limited : (i i' k k' p p' : ℕ) → row ≡ suc i → row ≡ suc i' → LimitedBy set i k p → LimitedBy set i' k' p' → SameExplanation (returned 0 0) (returned 0 0) (suc k) (suc k') p p'
  both_limited i i' k k' p p' e e' l l' =
      let same_place : i ≡ i' = omega arith in
      let same = limited_unique set i' k k' p p' (subst (λ (x : ℕ). LimitedBy set x k p) same_place l) l' in
      record { same_answer = refl; same_row = ap suc same.0; same_point = same.1 }

  -- THE PROMISE DETERMINES THE EXPLANATION
  pub explained_unique : {a b : Returned} {k h p q : ℕ} → Result a k p → Result b h q → SameExplanation a b k h p q
  explained_unique (rows_out_of_range n) (rows_out_of_range n') = refused_alike refl
  explained_unique (rows_out_of_range n) (row_breaks_limits k' s' f') = absurd (n s')
  explained_unique (rows_out_of_range n) (row_not_in_set s' w' o') = absurd (n s')
  explained_unique (rows_out_of_range n) (row_misses i' k' s' w' e' h' m') = absurd (n s')
  explained_unique (rows_out_of_range n) (limited i' k' p' s' w' e' h' all' l') = absurd (n s')
  explained_unique (row_breaks_limits k s f) (rows_out_of_range n') = absurd (n' s)
  explained_unique (row_breaks_limits k s f) (row_breaks_limits k' s' f') = refused_alike (ap (λ (x : ℕ). returned 4 (suc x)) (first_broken_unique set k k' f f'))
  explained_unique (row_breaks_limits k s f) (row_not_in_set s' w' o') = clash set k f w'
  explained_unique (row_breaks_limits k s f) (row_misses i' k' s' w' e' h' m') = clash set k f w'
  explained_unique (row_breaks_limits k s f) (limited i' k' p' s' w' e' h' all' l') = clash set k f w'
  explained_unique (row_not_in_set s w o) (rows_out_of_range n') = absurd (n' s)
  explained_unique (row_not_in_set s w o) (row_breaks_limits k' s' f') = clash set k' f' w
  explained_unique (row_not_in_set s w o) (row_not_in_set s' w' o') = refused_alike refl
  explained_unique (row_not_in_set s w o) (row_misses i' k' s' w' e' h' m') = outside i' o e' h'
  explained_unique (row_not_in_set s w o) (limited i' k' p' s' w' e' h' all' l') = outside i' o e' h'
  explained_unique (row_misses i k s w e h m) (rows_out_of_range n') = absurd (n' s)
  explained_unique (row_misses i k s w e h m) (row_breaks_limits k' s' f') = clash set k' f' w
  explained_unique (row_misses i k s w e h m) (row_not_in_set s' w' o') = outside i o' e h
  explained_unique (row_misses i k s w e h m) (row_misses i' k' s' w' e' h' m') = refused_alike (ap (λ (x : ℕ). returned 8 (suc x)) (first_miss_unique set k k' m m'))
  explained_unique (row_misses i k s w e h m) (limited i' k' p' s' w' e' h' all' l') = late set k m all'
  explained_unique (limited i k p s w e h all l) (rows_out_of_range n') = absurd (n' s)
  explained_unique (limited i k p s w e h all l) (row_breaks_limits k' s' f') = clash set k' f' w
  explained_unique (limited i k p s w e h all l) (row_not_in_set s' w' o') = outside i o' e h
  explained_unique (limited i k p s w e h all l) (row_misses i' k' s' w' e' h' m') = late set k' m' all
  explained_unique (limited i k p s w e h all l) (limited i' k' p' s' w' e' h' all' l') = both_limited i i' k k' p p' e e' l l'

  -- the row asked about, the row named, and the true reason
  pub record ExplainedTruly (limiting point : ℕ) : Type 0 where
    pub place : ℕ
    pub limiting_place : ℕ
    pub allowance : ℕ
    pub asked : row ≡ suc place
    pub named : limiting ≡ suc limiting_place
    pub reason : TrueReason set place limiting_place point allowance

  -- AN EXPLANATION THAT IS GIVEN NAMES THE TRUE REASON
  pub explained_truly : {a : Returned} {limiting point : ℕ} → Result a limiting point → a.number ≡ 0 → ExplainedTruly limiting point
  explained_truly (rows_out_of_range n) e = absurd (omega arith)
  explained_truly (row_breaks_limits k s f) e = absurd (omega arith)
  explained_truly (row_not_in_set s w o) e = absurd (omega arith)
  explained_truly (row_misses i k s w is h m) e = absurd (omega arith)
  explained_truly (limited i k p s w is h all l) e = record {
    place = i;
    limiting_place = k;
    allowance = l.allowance;
    asked = is;
    named = refl;
    reason = limited_truly set (within_steady set w) i (omega (arith, rows_of_length cs ds ts s.as_many_deadlines s.as_many_periods)) all k p l;
  }
