-- Allowances lowered to a row's bounds, one entry after the other: each row's allowance to the smallest of itself and the bounds on it.
use mathlib.Core.Path.{◌≡◌, refl, sym, ap, ◌∙◌, subst}
use Prim.Native.Nat.{ℕ, ◌+◌, ◌≤◌, ◌<◌}
use mathlib.Core.Logic.{◌⊎◌, inl, inr, ⊎_elim}
use mathlib.Core.List.{List}
use native.Mathlib.Omega.{arith}
use lib.IntN.{ℤ, pos}
use lib.ListN.{length, get_or, set, length-set}
use lib.Seq.{get_or-set_same, get_or-set_other}
use lib.Signed.{◌≤ℤ◌, ≤ℤ_refl}
use Rattle.theory.specs.Moved.{LoweredTo, smaller}
use Rattle.theory.proofs.Signed.{≤ℤ-trans}
use Rattle.theory.proofs.Tests.{equal_or_not}
use Rattle.theory.proofs.Moved.{moved_to_nothing, moved_in_two, moved_alike, lowered_at}
use Rattle.points.specs.Bounds.{IsOn, a_rival, itself}

-- the order of numbers that go down, and that it chains
abbrev pub Down : ℤ → ℤ → Type 0
Down a b = b ≤ℤ a

pub down_trans : (x y z : ℤ) → Down x y → Down y z → Down x z
down_trans x y z h k = ≤ℤ-trans z y x k h

-- where one entry is lowered to what a function gives at a number, its own row is lowered past that and every other past nothing
lowered_entry : (value : ℕ → ℤ) (at x : ℕ) (before : List ℤ) (to : ℤ)
    → at < length before
    → to ≡ smaller (get_or before at (pos 0)) (value x)
    → (i : ℕ)
    → LoweredTo value (λ y. (y ≡ x) × (at ≡ i)) (get_or before i (pos 0)) (get_or (set before at to) i (pos 0))
lowered_entry value at x before to inside is_smaller i = ⊎_elim own other (equal_or_not i at)
  where
    own : i ≡ at → LoweredTo value (λ y. (y ≡ x) × (at ≡ i)) (get_or before i (pos 0)) (get_or (set before at to) i (pos 0))
    own e =
        rw (e, get_or-set_same before at to (pos 0) inside, is_smaller)
        (moved_alike Down ≤ℤ_refl down_trans _ _ _ (λ y h. (h, refl)) (λ y h. h.0) _ _ (lowered_at value x (get_or before at (pos 0))))

    other : (i ≡ at → ⊥) → LoweredTo value (λ y. (y ≡ x) × (at ≡ i)) (get_or before i (pos 0)) (get_or (set before at to) i (pos 0))
    other d = rw (get_or-set_other before at i to (pos 0) d) (moved_to_nothing Down ≤ℤ_refl down_trans _ _ (λ y h. d (sym h.1)) _)

-- each row's allowance lowered to the first j bounds, where those are on it
pub record LoweredUpTo (best : List ℤ) (places : List ℕ) (j : ℕ) (before after : List ℤ) : Type 0 where
  pub within : j ≤ length places
  pub as_long : length after ≡ length before
  pub lowered : (i : ℕ) → LoweredTo (λ x. get_or best x (pos 0)) (λ x. (x < j) × (get_or places x 0 ≡ i)) (get_or before i (pos 0)) (get_or after i (pos 0))

module _ {best : List ℤ} {places : List ℕ} {j : ℕ} {before after : List ℤ} (so_far : LoweredUpTo best places j before after) {at : ℕ} (inside : at < length before)
    {to : ℤ} (is_smaller : to ≡ smaller (get_or after at (pos 0)) (get_or best j (pos 0))) where
  -- then one entry to the next bound: every row's past the first and that
  then_one : (Both : ℕ → ℕ → Type 0)
      → ((i x : ℕ) → (x < j) × (get_or places x 0 ≡ i) → Both i x)
      → ((i : ℕ) → at ≡ i → Both i j)
      → ((i x : ℕ) → Both i x → ((x < j) × (get_or places x 0 ≡ i)) ⊎ ((x ≡ j) × (at ≡ i)))
      → (i : ℕ)
      → LoweredTo (λ x. get_or best x (pos 0)) (Both i) (get_or before i (pos 0)) (get_or (set after at to) i (pos 0))
  then_one Both from_first from-entry of_both i =
      moved_in_two Down ≤ℤ_refl down_trans _ _ (λ x. (x ≡ j) × (at ≡ i)) (Both i)
      (from_first i) (λ x h. subst (Both i) (sym h.0) (from-entry i h.1)) (of_both i) _ _ _ (so_far.lowered i)
      (lowered_entry (λ x. get_or best x (pos 0)) at j after to (omega (arith, so_far.as_long)) is_smaller i)

  -- to one bound more, which is on the next place
  pub one_more_lowered : j < length places → at ≡ get_or places j 0 → LoweredUpTo best places (j + 1) before (set after at to)
  one_more_lowered more there = record {
    within = omega arith;
    as_long = length-set after at to ∙ so_far.as_long;
    lowered = then_one (λ i x. (x < j + 1) × (get_or places x 0 ≡ i)) (λ i x h. (omega (arith, h.0), h.1)) (λ i e. (omega arith, sym there ∙ e)) of_both;
  }
    where
      of_both : (i x : ℕ) → (x < j + 1) × (get_or places x 0 ≡ i) → ((x < j) × (get_or places x 0 ≡ i)) ⊎ ((x ≡ j) × (at ≡ i))
      of_both i x h =
          ⊎_elim (λ e. inr (e, there ∙ ap (λ (y : ℕ). get_or places y 0) (sym e) ∙ h.1)) (λ d. inl (omega (arith, h.0), h.1)) (equal_or_not x j)

  -- behind the last place, to the bound on row k itself
  pub all_lowered : length places ≤ j → (i : ℕ)
      → LoweredTo (λ x. get_or best x (pos 0)) (IsOn places at i) (get_or before i (pos 0)) (get_or (set after at to) i (pos 0))
  all_lowered last =
      then_one (IsOn places at) (λ i x h. a_rival (omega (arith, so_far.within, h.0)) h.1) (λ i e. itself (omega (arith, so_far.within)) e) of_both
    where
      of_both : (i x : ℕ) → IsOn places at i x → ((x < j) × (get_or places x 0 ≡ i)) ⊎ ((x ≡ j) × (at ≡ i))
      of_both i x (a_rival h e) = inl (omega arith, e)
      of_both i x (itself h e) = inr (omega (arith, so_far.within), e)
