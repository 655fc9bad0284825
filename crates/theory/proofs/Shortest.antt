-- Of the rows that touch row k, raising one of the shortest period loads row k the most. So the core allowance is known from one such row for each row of the core.
use mathlib.Core.Path.{◌≡◌, refl, sym, ◌∙◌}
use Prim.Native.Nat.{ℕ, suc, ◌≤◌, ◌<◌}
use mathlib.Core.Bool.{Bool, true, false}
use mathlib.Core.List.{List}
use native.Mathlib.Omega.{arith}
use native.Mathlib.Nat.{mul-le-mul_left}
use lib.Dec.{T}
use lib.ListN.{length}
use Rattle.theory.specs.Row.{Row, row_at}
use Rattle.theory.specs.Response.{Meets, AllMeet}
use Rattle.theory.specs.Allowance.{raised, IsCoreAllowance}
use Rattle.theory.specs.Points.{touches, times}
use Rattle.theory.proofs.Each.{T_true, T_false}
use Rattle.theory.proofs.Response.{meets_with_no_more_load}
use Rattle.theory.proofs.Raise.{raised_in_set, load_of_touched}
use Rattle.theory.proofs.Verdict.{AllSteady}
use Rattle.theory.proofs.Trial.{same_deadline, miss_bounds, untouched_meets}
use Rattle.theory.proofs.Allowance.{raised_steady}

-- of the rows that touch row k, row s counts most often in its load
pub record CountsMost (rows : List Row) (k s : ℕ) : Type 0 where
  pub in_set : s < length rows
  pub touched : T (touches rows s k)
  pub most : (i t : ℕ) → i < length rows → T (touches rows i k) → 1 ≤ t → times rows k i t ≤ times rows k s t

module _ (rows : List Row) (steady : AllSteady rows) where
  -- a row that meets with a more in the row that counts most meets with a more in any
  pub meets_with_any : (i a k s : ℕ) (inside : i < length rows) → k < length rows → CountsMost rows k s → Meets rows k → Meets (raised rows s a) k → Meets (raised rows i a) k
  meets_with_any i a k s inside in_set counts plain m = go (touches rows i k) refl
    where
      runs : 1 ≤ (row_at (raised rows i a) k).C
      runs = (raised_steady rows steady i inside a k ((raised_in_set rows i a).1 in_set)).runs

      go : (b : Bool) → touches rows i k ≡ b → Meets (raised rows i a) k
      go true e =
          meets_with_no_more_load (raised rows i a) (raised rows s a) k runs (same_deadline rows s counts.in_set a k ∙ sym (same_deadline rows i inside a k))
          (λ t from_one.
          omega (
            arith,
            load_of_touched rows i a inside k t (T_true (touches rows i k) e),
            load_of_touched rows s a counts.in_set k t counts.touched,
            mul-le-mul_left a (counts.most i t inside (T_true (touches rows i k) e) from_one),
          ))
          m
      go false e = untouched_meets rows i inside a k steady in_set plain (T_false (touches rows i k) e)

  -- row k meets with a more in the row that counts most in its load
  pub record MeetsWithMost (a k : ℕ) : Type 0 where
    pub row : ℕ
    pub counts : CountsMost rows k row
    pub meets : Meets (raised rows row a) k

  module _ (all : AllMeet rows) (a : ℕ) (each : (k : ℕ) → k < length rows → MeetsWithMost a k) where
    -- where every row does, all rows meet with a more in any row
    pub all_meet_with_any : (i : ℕ) → i < length rows → AllMeet (raised rows i a)
    all_meet_with_any i inside k h =
        let in_set : k < length rows = (raised_in_set rows i a).0 h in
        let with-most = each k in_set in
        meets_with_any i a k with-most.row inside in_set with-most.counts (all k in_set) with-most.meets

    -- and where one row does not with one more, a is the core allowance
    pub core_allowance_by_most : (k s : ℕ) → k < length rows → CountsMost rows k s → (Meets (raised rows s (suc a)) k → ⊥) → IsCoreAllowance rows a
    core_allowance_by_most k s in_set counts misses =
        record {
          row = s;
          in_set = counts.in_set;
          its_allowance = record { all_meet = all_meet_with_any s counts.in_set; largest = miss_bounds rows s counts.in_set a k steady in_set misses };
          smallest = λ i b inside is_b. is_b.largest a (all_meet_with_any i inside);
        }
