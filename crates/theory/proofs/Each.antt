-- What holds of each of a list of numbers.
use mathlib.Core.Path.{◌≡◌, refl, sym, subst}
use Prim.Native.Nat.{ℕ, zero, suc, ◌+◌, ◌≤◌, ◌<◌}
use native.Mathlib.Omega.{arith}
use mathlib.Core.Bool.{Bool, true, false}
use mathlib.Core.List.{List, [], ◌∷◌, ◌++◌}
use lib.Dec.{T}
use Rattle.theory.specs.Gather.{up_from, keep, every, All, insert, sort}
use Rattle.theory.proofs.Tests.{and_both, and_first, and_second}

-- a statement on `keep` at the head of a list, by the two cases of its test
pub keep_cases :
    (Q : List ℕ → Type 0) (test : ℕ → Bool) (x : ℕ) (xs : List ℕ)
    → (test x ≡ true → Q (x ∷ keep test xs))
    → (test x ≡ false → Q (keep test xs))
    → Q (keep test (x ∷ xs))
unfolding keep
keep_cases Q test x xs passes fails = go (test x) refl
  where
    go : (b : Bool) → test x ≡ b → Q (elim b [ true ↦ x ∷ keep test xs | false ↦ keep test xs ])
    go true e = passes e
    go false e = fails e

-- a statement on `insert` at the head of a list, by the two cases of its test
pub insert_cases :
    (Q : List ℕ → Type 0) (precedes : ℕ → ℕ → Bool) (x y : ℕ) (ys : List ℕ)
    → (precedes x y ≡ true → Q (x ∷ y ∷ ys))
    → (precedes x y ≡ false → Q (y ∷ insert precedes x ys))
    → Q (insert precedes x (y ∷ ys))
unfolding insert
insert_cases Q precedes x y ys before after = go (precedes x y) refl
  where
    go : (b : Bool) → precedes x y ≡ b → Q (elim b [ true ↦ x ∷ y ∷ ys | false ↦ y ∷ insert precedes x ys ])
    go true e = before e
    go false e = after e

-- a test that gave true passes
pub T_true : (b : Bool) → b ≡ true → T b
T_true b e = subst T (sym e) tt

pub true_of : (b : Bool) → T b → b ≡ true
true_of true t = refl
true_of false t = absurd t

-- a test that passes gave no false
pub T_false : (b : Bool) → b ≡ false → T b → ⊥
T_false b e t = subst T e t

-- what implies another for each number does so for each of a list
pub all_map : {P Q : ℕ → Type 0} (xs : List ℕ) → ((x : ℕ) → P x → Q x) → All P xs → All Q xs
all_map [] f h = tt
all_map (x ∷ xs) f h = (f x h.0, all_map xs f h.1)

-- of two statements of each, both
pub all_both : (P Q : ℕ → Type 0) (xs : List ℕ) → All P xs → All Q xs → All (λ x. P x × Q x) xs
all_both P Q [] p q = tt
all_both P Q (x ∷ xs) p q = ((p.0, q.0), all_both P Q xs p.1 q.1)

-- each of two lists: each of the joined list
pub all_append : (P : ℕ → Type 0) (xs ys : List ℕ) → All P xs → All P ys → All P (xs ++ ys)
all_append P [] ys p q = q
all_append P (x ∷ xs) ys p q = (p.0, all_append P xs ys p.1 q)

-- each: each of the kept
pub all_keep : (P : ℕ → Type 0) (test : ℕ → Bool) (xs : List ℕ) → All P xs → All P (keep test xs)
unfolding keep
all_keep P test [] h = tt
all_keep P test (x ∷ xs) h = keep_cases (All P) test x xs (λ e. (h.0, all_keep P test xs h.1)) (λ e. all_keep P test xs h.1)

-- each of the kept passes the test
pub keep_passes : (test : ℕ → Bool) (xs : List ℕ) → All (λ x. T (test x)) (keep test xs)
unfolding keep
keep_passes test [] = tt
keep_passes test (x ∷ xs) = keep_cases (All (λ x. T (test x))) test x xs (λ e. (T_true (test x) e, keep_passes test xs)) (λ e. keep_passes test xs)

-- each: each of the kept, which passes
pub all_kept : (P : ℕ → Type 0) (test : ℕ → Bool) (xs : List ℕ) → All P xs → All (λ x. P x × T (test x)) (keep test xs)
all_kept P test xs h = all_both P (λ x. T (test x)) (keep test xs) (all_keep P test xs h) (keep_passes test xs)

-- the one put in, and each: each of the new list
pub all_insert : (P : ℕ → Type 0) (precedes : ℕ → ℕ → Bool) (x : ℕ) (xs : List ℕ) → P x → All P xs → All P (insert precedes x xs)
unfolding insert
all_insert P precedes x [] p h = (p, tt)
all_insert P precedes x (y ∷ ys) p h = insert_cases (All P) precedes x y ys (λ e. (p, h)) (λ e. (h.0, all_insert P precedes x ys p h.1))

-- each: each of the sorted
pub all_sort : (P : ℕ → Type 0) (precedes : ℕ → ℕ → Bool) (xs : List ℕ) → All P xs → All P (sort precedes xs)
unfolding sort
all_sort P precedes [] h = tt
all_sort P precedes (x ∷ xs) h = all_insert P precedes x (sort precedes xs) h.0 (all_sort P precedes xs h.1)

-- each of the n numbers from i on is at least i and below i + n
pub all_up_from : (i n : ℕ) → All (λ x. (i ≤ x) × (x < i + n)) (up_from i n)
unfolding up_from
all_up_from i zero = tt
all_up_from i (suc n) = (omega arith, all_map (up_from (suc i) n) (λ x h. omega arith) (all_up_from (suc i) n))

-- the test of all passes: it passes at each
pub every_all : (test : ℕ → Bool) (xs : List ℕ) → T (every test xs) → All (λ x. T (test x)) xs
unfolding every
every_all test [] h = tt
every_all test (x ∷ xs) h = (and_first (test x) (every test xs) h, every_all test xs (and_second (test x) (every test xs) h))

-- the test passes at each: the test of all passes
pub all_every : (test : ℕ → Bool) (xs : List ℕ) → All (λ x. T (test x)) xs → T (every test xs)
unfolding every
all_every test [] h = tt
all_every test (x ∷ xs) h = and_both (test x) (every test xs) h.0 (all_every test xs h.1)

-- each of the joined list: each of the two
pub all_append_split : (P : ℕ → Type 0) (xs ys : List ℕ) → All P (xs ++ ys) → All P xs × All P ys
all_append_split P [] ys h = (tt, h)
all_append_split P (x ∷ xs) ys h = ((h.0, (all_append_split P xs ys h.1).0), (all_append_split P xs ys h.1).1)
