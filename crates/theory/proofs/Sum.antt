-- Sums over lists of numbers.
use mathlib.Core.Path.{◌≡◌, refl, sym}
use Prim.Native.Nat.{ℕ, ◌+◌, ◌*◌, ◌≤◌, ◌<◌, zero-le}
use native.Mathlib.Nat.{add-le-add, le_trans, le_of_eq, zero-mul}
use native.Mathlib.Omega.{arith}
use mathlib.Core.Bool.{Bool, true, false}
use mathlib.Core.List.{List, [], ◌∷◌, ◌++◌, Memᴰ}
use lib.Dec.{eqb}
use borrow.Author.Tests.{eq-eqb, ne_eqb}
use Rattle.theory.specs.Gather.{keep, sum, insert, sort, All}
use Rattle.theory.proofs.Each.{keep_cases, insert_cases, all_map}
use Rattle.theory.proofs.Member.{all_at, all_from}
use Rattle.theory.proofs.Order.{Ordered}

-- a term where a test passes, and 0 where it fails
unfoldable pub where_passes : (ℕ → Bool) → (ℕ → ℕ) → ℕ → ℕ
where_passes test term x = elim (test x) [ true ↦ term x | false ↦ 0 ]

-- the sum over a joined list
pub sum_append : (term : ℕ → ℕ) (xs ys : List ℕ) → sum term (xs ++ ys) ≡ sum term xs + sum term ys
unfolding sum
sum_append term [] ys = omega arith
sum_append term (x ∷ xs) ys = omega (arith, sum_append term xs ys)

-- the sum with one put in
pub sum_insert : (term : ℕ → ℕ) (precedes : ℕ → ℕ → Bool) (x : ℕ) (xs : List ℕ) → sum term (insert precedes x xs) ≡ term x + sum term xs
unfolding sum insert
sum_insert term precedes x [] = refl
sum_insert term precedes x (y ∷ ys) = insert_cases (λ zs. sum term zs ≡ term x + sum term (y ∷ ys)) precedes x y ys (λ e. refl) (λ e. omega (arith, sum_insert term precedes x ys))

-- the sum does not look at the order
pub sum_sort : (term : ℕ → ℕ) (precedes : ℕ → ℕ → Bool) (xs : List ℕ) → sum term (sort precedes xs) ≡ sum term xs
unfolding sum sort
sum_sort term precedes [] = refl
sum_sort term precedes (x ∷ xs) = omega (arith, sum_insert term precedes x (sort precedes xs), sum_sort term precedes xs)

-- the term at a number that passes
pub where_passes_true : (test : ℕ → Bool) (term : ℕ → ℕ) (x : ℕ) → test x ≡ true → where_passes test term x ≡ term x
unfolding where_passes
where_passes_true test term x e = rw (e, where_passes)

-- the term at a number that fails
pub where_passes_false : (test : ℕ → Bool) (term : ℕ → ℕ) (x : ℕ) → test x ≡ false → where_passes test term x ≡ 0
unfolding where_passes
where_passes_false test term x e = rw (e, where_passes)

-- the sum over the kept is the sum of the term where the test passes
pub sum_keep : (test : ℕ → Bool) (term : ℕ → ℕ) (xs : List ℕ) → sum term (keep test xs) ≡ sum (where_passes test term) xs
unfolding sum keep
sum_keep test term [] = refl
sum_keep test term (x ∷ xs) = keep_cases (λ zs. sum term zs ≡ where_passes test term x + sum (where_passes test term) xs) test x xs (λ e. omega (arith, sum_keep test term xs, where_passes_true test term x e)) (λ e. omega (arith, sum_keep test term xs, where_passes_false test term x e))

-- a sum of terms none of which is larger
pub sum_le : (f g : ℕ → ℕ) (xs : List ℕ) → All (λ x. f x ≤ g x) xs → sum f xs ≤ sum g xs
unfolding sum
sum_le f g [] h = omega arith
sum_le f g (x ∷ xs) h = add-le-add h.0 (sum_le f g xs h.1)

-- a sum of equal terms
pub sum_eq : (f g : ℕ → ℕ) (xs : List ℕ) → All (λ x. f x ≡ g x) xs → sum f xs ≡ sum g xs
unfolding sum
sum_eq f g [] h = refl
sum_eq f g (x ∷ xs) h = omega (arith, h.0, sum_eq f g xs h.1)

-- leaving some out makes no sum greater
pub sum_keep_le : (test : ℕ → Bool) (term : ℕ → ℕ) (xs : List ℕ) → sum term (keep test xs) ≤ sum term xs
sum_keep_le test term xs =
    le_trans (le_of_eq (sum_keep test term xs)) (sum_le (where_passes test term) term xs (all_from xs (λ x m. at_most x (test x) refl)))
  where
    at_most : (x : ℕ) (b : Bool) → test x ≡ b → where_passes test term x ≤ term x
    at_most x true e = le_of_eq (where_passes_true test term x e)
    at_most x false e = le_trans (le_of_eq (where_passes_false test term x e)) zero-le

-- x where h is i, else 0
abbrev pub only : ℕ → ℕ → ℕ → ℕ
only i x h = where_passes (λ (k : ℕ). eqb k i) (λ k. x) h

-- at i it is x
pub only_there : (i x h : ℕ) → h ≡ i → only i x h ≡ x
only_there i x h e = where_passes_true (λ k. eqb k i) (λ k. x) h (eq-eqb h i e)

-- elsewhere it is 0
pub only_elsewhere : (i x h : ℕ) → (h ≡ i → ⊥) → only i x h ≡ 0
only_elsewhere i x h d = where_passes_false (λ k. eqb k i) (λ k. x) h (ne_eqb h i d)

-- a sum over a list without i
pub sum_without : (i x : ℕ) (xs : List ℕ) → All (λ h. h ≡ i → ⊥) xs → sum (only i x) xs ≡ 0
unfolding sum
sum_without i x [] h = refl
sum_without i x (y ∷ ys) h = omega (arith, only_elsewhere i x y h.0, sum_without i x ys h.1)

-- a sum over a list with i in it once
pub sum_with : (i x : ℕ) {xs : List ℕ} → Memᴰ i xs → Ordered ◌<◌ xs → sum (only i x) xs ≡ x
unfolding sum
sum_with i x (Memᴰ.head {x = y} {xs = ys} e) o =
    omega (arith, only_there i x y (sym e), sum_without i x ys (all_map ys (λ z l f. omega arith) o.0))
sum_with i x (Memᴰ.tail {x = y} {xs = ys} m) o =
    let before : y < i = all_at (λ z. y < z) m o.0 in
    omega (arith, only_elsewhere i x y (λ e. omega arith), sum_with i x m o.1)

-- the sum of a sum of two terms
pub sum_of_both : (f g : ℕ → ℕ) (xs : List ℕ) → sum (λ x. f x + g x) xs ≡ sum f xs + sum g xs
unfolding sum
sum_of_both f g [] = refl
sum_of_both f g (x ∷ xs) = omega (arith, sum_of_both f g xs)

-- the sum of a multiple of a term
pub sum_times : (f : ℕ → ℕ) (n : ℕ) (xs : List ℕ) → sum (λ x. f x * n) xs ≡ sum f xs * n
unfolding sum
sum_times f n [] = sym (zero-mul n)
sum_times f n (x ∷ xs) = omega (arith, sum_times f n xs)
