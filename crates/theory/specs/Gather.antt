-- Words for numbers and lists of numbers that the definitions of document 01 share: an order with a rule for ties, places, those that pass a
-- test, a sum, what holds of each, the first of which something holds, a list in an order.
use Rattle.std.specs.Prelude.{◌≡◌, ℕ, zero, suc, ◌+◌, Bool, true, false, ◌&&◌, ◌||◌, ◌⊎◌, List, [], ◌∷◌, ltb, eqb}

-- a is less than b; where the two tie, p is less than q
abbrev pub less_or_tied : ℕ → ℕ → ℕ → ℕ → Bool
less_or_tied a b p q = ltb a b || (eqb a b && ltb p q)

-- the n numbers from i on: i, i + 1, ..
unfoldable pub up_from : ℕ → ℕ → List ℕ
up_from i zero = []
up_from i (suc n) = i ∷ up_from (suc i) n

-- those of a list that pass a test, in its order
unfoldable pub keep : (ℕ → Bool) → List ℕ → List ℕ
keep test [] = []
keep test (x ∷ xs) = elim (test x) [ true ↦ x ∷ keep test xs | false ↦ keep test xs ]

-- the sum of a term over a list
unfoldable pub sum : (ℕ → ℕ) → List ℕ → ℕ
sum term [] = 0
sum term (x ∷ xs) = term x + sum term xs

-- whether each of a list passes a test
unfoldable pub every : (ℕ → Bool) → List ℕ → Bool
every test [] = true
every test (x ∷ xs) = test x && every test xs

-- P holds of each of a list
abbrev pub All : (ℕ → Type 0) → List ℕ → Type 0
All P [] = Unit {0}
All P (x ∷ xs) = P x × All P xs

-- p is the first of a list of which P holds
abbrev pub First : (ℕ → Type 0) → List ℕ → ℕ → Type 0
First P [] p = ⊥
First P (x ∷ xs) p = ((x ≡ p) × P x) ⊎ ((P x → ⊥) × First P xs p)

-- x put into a list before the first that it precedes
unfoldable pub insert : (ℕ → ℕ → Bool) → ℕ → List ℕ → List ℕ
insert precedes x [] = x ∷ []
insert precedes x (y ∷ ys) = elim (precedes x y) [ true ↦ x ∷ y ∷ ys | false ↦ y ∷ insert precedes x ys ]

-- a list in the order of a relation
unfoldable pub sort : (ℕ → ℕ → Bool) → List ℕ → List ℕ
sort precedes [] = []
sort precedes (x ∷ xs) = insert precedes x (sort precedes xs)

-- of a first and others, the one that is left where a better one takes the place of the one in hand
unfoldable pub best : {A : Type 0} → (A → A → Bool) → A → List A → A
best better first [] = first
best better first (next ∷ others) = elim (better next first) [ true ↦ best better next others | false ↦ best better first others ]
