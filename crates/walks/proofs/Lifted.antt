-- The entries of a list lifted at a point, one after the other, each to what a function of its own gives there.
use mathlib.Core.Path.{◌≡◌, refl, ◌∙◌}
use Prim.Native.Nat.{ℕ, ◌+◌, ◌≤◌, ◌<◌}
use mathlib.Core.Bool.{Bool, true, false}
use mathlib.Core.List.{List}
use native.Mathlib.Omega.{arith}
use borrow.Author.Tests.{ltb-true, ltb-false}
use lib.Dec.{ltb}
use lib.IntN.{ℤ, pos}
use lib.ListN.{length, get_or, set, length-set}
use lib.Seq.{get_or-set_same, get_or-set_other}
use Rattle.theory.specs.Moved.{LiftedTo, greater}
use Rattle.theory.proofs.Moved.{lifted_at}

-- the first j entries lifted to what each one's function gives at one point, and the others as they were
pub record LiftedUpTo (value : ℕ → ℕ → ℤ) (p j : ℕ) (before after : List ℤ) : Type 0 where
  pub as_long : length after ≡ length before
  pub lifted : (k : ℕ) → k < j → LiftedTo (value k) (λ x. x ≡ p) (get_or before k (pos 0)) (get_or after k (pos 0))
  pub as_before : (k : ℕ) → j ≤ k → get_or after k (pos 0) ≡ get_or before k (pos 0)

-- one entry more
pub one_more_lifted : (value : ℕ → ℕ → ℤ) (p j : ℕ) (before after : List ℤ) (to : ℤ)
    → LiftedUpTo value p j before after
    → j < length before
    → to ≡ greater (get_or after j (pos 0)) (value j p)
    → LiftedUpTo value p (j + 1) before (set after j to)
one_more_lifted value p j before after to r inside is-greater = record {
  as_long = length-set after j to ∙ r.as_long;
  lifted = λ k h. go k h (ltb k j) refl;
  as_before = λ k h. get_or-set_other after j k to (pos 0) (omega arith) ∙ r.as_before k (omega arith);
}
  where
    go : (k : ℕ) → k < j + 1 → (b : Bool) → ltb k j ≡ b → LiftedTo (value k) (λ x. x ≡ p) (get_or before k (pos 0)) (get_or (set after j to) k (pos 0))
    go k h true e =
        rw (get_or-set_other after j k to (pos 0) (omega (arith, ltb-true k j e))) (r.lifted k (ltb-true k j e))
    go k h false e =
        let last : k ≡ j = omega (arith, ltb-false k j e) in
        rw (last, get_or-set_same after j to (pos 0) (omega (arith, r.as_long)), is-greater, r.as_before j (omega arith)) (lifted_at (value j) p (get_or before j (pos 0)))
