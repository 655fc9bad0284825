-- Numbers moved past what a function gives at visited numbers: at one, in two steps, and at none.
use mathlib.Core.Path.{◌≡◌, refl, sym, subst, ◌∙◌}
use Prim.Native.Nat.{ℕ}
use mathlib.Core.Bool.{Bool, true, false, not}
use mathlib.Core.Logic.{◌⊎◌, inl, inr, ⊎_elim}
use lib.Dec.{T}
use lib.IntN.{ℤ}
use lib.Signed.{lt_z, le_z, ◌≤ℤ◌, ≤ℤ_refl, lt_z_yes, lt_z_no, clash_ℤ}
use Rattle.theory.specs.Moved.{MovedTo, LiftedTo, LoweredTo, greater, smaller}
use Rattle.theory.proofs.Signed.{≤ℤ-trans, leZ_passes, leZ_fails}

module _ (Before : ℤ → ℤ → Type 0) (reflexive : (z : ℤ) → Before z z) (transitive : (x y z : ℤ) → Before x y → Before y z → Before x z) (value : ℕ → ℤ) where
  -- past nothing
  pub moved_to_nothing : (Visited : ℕ → Type 0) → ((p : ℕ) → Visited p → ⊥) → (z : ℤ) → MovedTo Before value Visited z z
  moved_to_nothing Visited none z = record { onward = reflexive z; past_visited = λ p v. absurd (none p v); attained = inl refl }

  -- in two steps: past the numbers of the first, and then past those of the second
  pub moved_in_two : (First Second Both : ℕ → Type 0)
      → ((p : ℕ) → First p → Both p)
      → ((p : ℕ) → Second p → Both p)
      → ((p : ℕ) → Both p → First p ⊎ Second p)
      → (before middle after : ℤ)
      → MovedTo Before value First before middle
      → MovedTo Before value Second middle after
      → MovedTo Before value Both before after
  moved_in_two First Second Both from_first from_Second of_both before middle after r s = record {
    onward = transitive before middle after r.onward s.onward;
    past_visited = λ p v. ⊎_elim (λ f. transitive (value p) middle after (r.past_visited p f) s.onward) (s.past_visited p) (of_both p v);
    attained = ⊎_elim (λ same. ⊎_elim (λ e. inl (same ∙ e)) (λ q. inr (q.0, from_first q.0 q.1, q.2 ∙ sym same)) r.attained) (λ q. inr (q.0, from_Second q.0 q.1, q.2)) s.attained;
  }

  -- past the same numbers, said otherwise
  pub moved_alike : (These Those : ℕ → Type 0)
      → ((p : ℕ) → These p → Those p)
      → ((p : ℕ) → Those p → These p)
      → (before after : ℤ)
      → MovedTo Before value These before after
      → MovedTo Before value Those before after
  moved_alike These Those there back before after r = record {
    onward = r.onward;
    past_visited = λ p v. r.past_visited p (back p v);
    attained = ⊎_elim inl (λ q. inr (q.0, there q.0 q.1, q.2)) r.attained;
  }

  -- past one number: to it, or staying where it is already past it
  pub moved_to : (p : ℕ) (before : ℤ) → Before before (value p) → MovedTo Before value (λ x. x ≡ p) before (value p)
  moved_to p before h = record { onward = h; past_visited = λ x e. subst (λ (y : ℕ). Before (value y) (value p)) (sym e) (reflexive (value p)); attained = inr (p, refl, refl) }

  pub moved_nowhere : (p : ℕ) (before : ℤ) → Before (value p) before → MovedTo Before value (λ x. x ≡ p) before before
  moved_nowhere p before h = record { onward = reflexive before; past_visited = λ x e. subst (λ (y : ℕ). Before (value y) before) (sym e) h; attained = inl refl }

-- the order that a test of less shows
pub less_or_equal : (a b : ℤ) → lt_z a b ≡ true → a ≤ℤ b
less_or_equal a b e = go (le_z a b) refl
  where
    go : (t : Bool) → le_z a b ≡ t → a ≤ℤ b
    go true f = leZ_passes a b f
    go false f = clash_ℤ (lt_z_yes (subst T (sym e) tt)) (leZ_fails a b f)

pub not_less : (a b : ℤ) → lt_z a b ≡ false → b ≤ℤ a
not_less a b e = lt_z_no (subst (λ (t : Bool). T (not t)) (sym e) tt)

-- the greater of a number and what a function gives at one
pub lifted_at : (value : ℕ → ℤ) (p : ℕ) (before : ℤ) → LiftedTo value (λ x. x ≡ p) before (greater before (value p))
unfolding greater
lifted_at value p before = go (lt_z before (value p)) refl
  where
    go : (t : Bool) → lt_z before (value p) ≡ t → LiftedTo value (λ x. x ≡ p) before (elim t [ true ↦ value p | false ↦ before ])
    go true e = moved_to (λ a b. a ≤ℤ b) ≤ℤ_refl ≤ℤ-trans value p before (less_or_equal before (value p) e)
    go false e = moved_nowhere (λ a b. a ≤ℤ b) ≤ℤ_refl ≤ℤ-trans value p before (not_less before (value p) e)

-- and the smaller
pub lowered_at : (value : ℕ → ℤ) (p : ℕ) (before : ℤ) → LoweredTo value (λ x. x ≡ p) before (smaller before (value p))
unfolding smaller
lowered_at value p before = go (lt_z (value p) before) refl
  where
    go : (t : Bool) → lt_z (value p) before ≡ t → LoweredTo value (λ x. x ≡ p) before (elim t [ true ↦ value p | false ↦ before ])
    go true e = moved_to (λ a b. b ≤ℤ a) ≤ℤ_refl (λ x y z h k. ≤ℤ-trans z y x k h) value p before (less_or_equal (value p) before e)
    go false e = moved_nowhere (λ a b. b ≤ℤ a) ≤ℤ_refl (λ x y z h k. ≤ℤ-trans z y x k h) value p before (not_less (value p) before e)
