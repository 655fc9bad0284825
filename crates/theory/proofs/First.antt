-- The first of a list of which something holds: it is one of the list, it is unique, and what is the first of which one thing holds is the first of which a narrower holds.
use mathlib.Core.Path.{◌≡◌, refl, sym, ◌∙◌, subst}
use Prim.Native.Nat.{ℕ}
use mathlib.Core.Logic.{inl, inr}
use mathlib.Core.List.{List, [], ◌∷◌, ◌++◌, Memᴰ}
use Rattle.theory.specs.Gather.{All, First}

module _ (P : ℕ → Type 0) where
  -- it holds of the first
  pub first_holds : (xs : List ℕ) (p : ℕ) → First P xs p → P p
  first_holds [] p f = absurd f
  first_holds (x ∷ xs) p (inl here) = subst P here.0 here.1
  first_holds (x ∷ xs) p (inr later) = first_holds xs p later.1

  -- and it is one of the list
  pub first_among : (xs : List ℕ) (p : ℕ) → First P xs p → Memᴰ p xs
  first_among [] p f = absurd f
  first_among (x ∷ xs) p (inl here) = Memᴰ.head (sym here.0)
  first_among (x ∷ xs) p (inr later) = Memᴰ.tail (first_among xs p later.1)

  -- one is the first
  pub first_unique : (xs : List ℕ) (p q : ℕ) → First P xs p → First P xs q → p ≡ q
  first_unique [] p q f g = absurd f
  first_unique (x ∷ xs) p q (inl here) (inl there) = sym here.0 ∙ there.0
  first_unique (x ∷ xs) p q (inl here) (inr later) = absurd (later.0 here.1)
  first_unique (x ∷ xs) p q (inr later) (inl here) = absurd (later.0 here.1)
  first_unique (x ∷ xs) p q (inr later) (inr later') = first_unique xs p q later.1 later'.1

  -- the first of a list is the first with more behind it
  pub first_in_front : (xs ys : List ℕ) (p : ℕ) → First P xs p → First P (xs ++ ys) p
  first_in_front [] ys p f = absurd f
  first_in_front (x ∷ xs) ys p (inl here) = inl here
  first_in_front (x ∷ xs) ys p (inr later) = inr (later.0, first_in_front xs ys p later.1)

  -- and with more before it of which it does not hold
  pub first_behind : (xs ys : List ℕ) (p : ℕ) → All (λ x. P x → ⊥) xs → First P ys p → First P (xs ++ ys) p
  first_behind [] ys p none f = f
  first_behind (x ∷ xs) ys p none f = inr (none.0, first_behind xs ys p none.1 f)

-- where something narrower holds of the first, that is the first of which the narrower holds
pub first_narrows : (P Q : ℕ → Type 0) (xs : List ℕ) (p : ℕ) → ((x : ℕ) → Memᴰ x xs → Q x → P x) → Q p → First P xs p → First Q xs p
first_narrows P Q [] p narrower q f = absurd f
first_narrows P Q (x ∷ xs) p narrower q (inl here) = inl (here.0, subst Q (sym here.0) q)
first_narrows P Q (x ∷ xs) p narrower q (inr later) =
    inr (λ h. later.0 (narrower x (Memᴰ.head refl) h), first_narrows P Q xs p (λ y m. narrower y (Memᴰ.tail m)) q later.1)
