-- The best of a first and others: it is one of them, and as good as each.
use mathlib.Core.Path.{◌≡◌, refl, sym, subst}
use mathlib.Core.Bool.{Bool, true, false}
use mathlib.Core.List.{List, [], ◌∷◌, Memᴰ}
use Rattle.theory.specs.Gather.{best}

-- e is one of a list, and as good as each, where `Under y z` says that z is at least as good as y
pub record Best {A : Type 0} (Under : A → A → Type 0) (xs : List A) (e : A) : Type 0 where
  pub attained : Memᴰ e xs
  pub over_all : (y : A) → Memᴰ y xs → Under y e

module _ {A : Type 0} (better : A → A → Bool) where
  -- a statement on the best with one more, by the two cases of the test
  pub best_cases :
      (Q : A → Type 0) (first next : A) (others : List A)
      → (better next first ≡ true → Q (best better next others))
      → (better next first ≡ false → Q (best better first others))
      → Q (best better first (next ∷ others))
  unfolding best
  best_cases Q first next others replaced stays = go (better next first) refl
    where
      go : (b : Bool) → better next first ≡ b → Q (elim b [ true ↦ best better next others | false ↦ best better first others ])
      go true e = replaced e
      go false e = stays e

  -- the best is one of them
  pub best_among : (first : A) (others : List A) → Memᴰ (best better first others) (first ∷ others)
  unfolding best
  best_among first [] = Memᴰ.head refl
  best_among first (next ∷ others) =
      best_cases (λ e. Memᴰ e (first ∷ next ∷ others)) first next others (λ t. Memᴰ.tail (best_among next others)) (λ t. past (best_among first others))
    where
      past : {y : A} → Memᴰ y (first ∷ others) → Memᴰ y (first ∷ next ∷ others)
      past (Memᴰ.head e) = Memᴰ.head e
      past (Memᴰ.tail m) = Memᴰ.tail (Memᴰ.tail m)

  -- what holds of the first, and of each that is better than one of which it holds, holds of the best
  pub best_keeps :
      (Q : A → Type 0)
      → ((next z : A) → better next z ≡ true → Q z → Q next)
      → (first : A) (others : List A)
      → Q first
      → Q (best better first others)
  unfolding best
  best_keeps Q kept first [] q = q
  best_keeps Q kept first (next ∷ others) q =
      best_cases Q first next others (λ t. best_keeps Q kept next others (kept next first t q)) (λ t. best_keeps Q kept first others q)

  -- What is under one in hand stays under the one that takes its place, and one that takes no place is under the one in hand.
  module _
      (Under : A → A → Type 0)
      (reflexive : (z : A) → Under z z)
      (kept : (y next z : A) → better next z ≡ true → Under y z → Under y next)
      (fails : (next z : A) → better next z ≡ false → Under next z) where
    -- the best is as good as each of the others
    over_others : (first : A) (others : List A) (y : A) → Memᴰ y others → Under y (best better first others)
    over_others first [] y x' = elim x' [ ]
    over_others first (next ∷ others) y (Memᴰ.head e) =
        subst (λ (x : A). Under x (best better first (next ∷ others))) (sym e)
        (best_cases (Under next) first next others (λ t. best_keeps (Under next) (kept next) next others (reflexive next)) (λ t. best_keeps (Under next) (kept next) first others (fails next first t)))
    over_others first (next ∷ others) y (Memᴰ.tail m) = best_cases (Under y) first next others (λ t. over_others next others y m) (λ t. over_others first others y m)

    -- it is the best of them
    pub best_is : (first : A) (others : List A) → Best Under (first ∷ others) (best better first others)
    best_is first others = record { attained = best_among first others; over_all = over_all }
      where
        over_all : (y : A) → Memᴰ y (first ∷ others) → Under y (best better first others)
        over_all y (Memᴰ.head e) = subst (λ (x : A). Under x (best better first others)) (sym e) (best_keeps (Under first) (kept first) first others (reflexive first))
        over_all y (Memᴰ.tail m) = over_others first others y m

    -- where the first is one of the others, the best is the best of those
    pub best_of_others : (first : A) (others : List A) → Memᴰ first others → Best Under others (best better first others)
    best_of_others first others among = record { attained = without_first (best_among first others); over_all = over_others first others }
      where
        without_first : {y : A} → Memᴰ y (first ∷ others) → Memᴰ y others
        without_first (Memᴰ.head e) = subst (λ (x : A). Memᴰ x others) (sym e) among
        without_first (Memᴰ.tail m) = m
