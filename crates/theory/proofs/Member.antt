-- The members of lists of numbers, and how many there are.
use mathlib.Core.Path.{◌≡◌, refl, sym, ap, ◌∙◌, subst}
use Prim.Native.Nat.{ℕ, zero, suc, ◌+◌, ◌≤◌, ◌<◌}
use native.Mathlib.Omega.{arith}
use native.Mathlib.Nat.{zero-add, add-zero, suc-add}
use mathlib.Core.Bool.{Bool, true, false}
use mathlib.Core.Logic.{⊎_elim}
use mathlib.Core.List.{List, [], ◌∷◌, ◌++◌, map, Memᴰ}
use lib.Dec.{T}
use lib.ListN.{length, get_or, length-map}
use Rattle.theory.specs.Gather.{up_from, keep, insert, sort, All}
use Rattle.theory.proofs.Tests.{equal_or_not}
use Rattle.theory.proofs.Each.{keep_cases, insert_cases, T_false, all_keep, all_sort}

-- each: each member
pub all_at : (P : ℕ → Type 0) {x : ℕ} {xs : List ℕ} → Memᴰ x xs → All P xs → P x
all_at P (Memᴰ.head e) h = subst P (sym e) h.0
all_at P (Memᴰ.tail m) h = all_at P m h.1

-- each member: each
pub all_from : {P : ℕ → Type 0} (xs : List ℕ) → ((x : ℕ) → Memᴰ x xs → P x) → All P xs
all_from [] f = tt
all_from (x ∷ xs) f = (f x (Memᴰ.head refl), all_from xs (λ y m. f y (Memᴰ.tail m)))

-- a value of a function at a member is one of its values
pub mem_map : {A : Type 0} (f : ℕ → A) {x : ℕ} {xs : List ℕ} → Memᴰ x xs → Memᴰ (f x) (map f xs)
mem_map f (Memᴰ.head e) = Memᴰ.head (ap f e)
mem_map f (Memᴰ.tail m) = Memᴰ.tail (mem_map f m)

-- one of a list of values, with the number that it is the value of
pub record ValueOf {A : Type 0} (f : ℕ → A) (xs : List ℕ) (y : A) : Type 0 where
  pub at : ℕ
  pub among : Memᴰ at xs
  pub value : f at ≡ y

-- each of a function's values is its value at a member
pub mem_of_map : {A : Type 0} (f : ℕ → A) (xs : List ℕ) {y : A} → Memᴰ y (map f xs) → ValueOf f xs y
mem_of_map {A = A} f [] {y = y} x' = elim x' [ ]
mem_of_map f (x ∷ xs) (Memᴰ.head e) = record { at = x; among = Memᴰ.head refl; value = sym e }
mem_of_map f (x ∷ xs) (Memᴰ.tail m) = let v = mem_of_map f xs m in record { at = v.at; among = Memᴰ.tail v.among; value = v.value }

-- a member that passes is kept
pub mem_keep : (test : ℕ → Bool) {x : ℕ} {xs : List ℕ} → Memᴰ x xs → T (test x) → Memᴰ x (keep test xs)
mem_keep test {x} (Memᴰ.head {x = y} {xs = ys} e) t = keep_cases (Memᴰ x) test y ys (λ p. Memᴰ.head e) (λ p. absurd (T_false (test y) p (subst (λ z. T (test z)) e t)))
mem_keep test {x} (Memᴰ.tail {x = y} {xs = ys} m) t = keep_cases (Memᴰ x) test y ys (λ p. Memᴰ.tail (mem_keep test m t)) (λ p. mem_keep test m t)

-- what is put into a list is a member of it
pub mem_inserted : (precedes : ℕ → ℕ → Bool) (x : ℕ) (xs : List ℕ) → Memᴰ x (insert precedes x xs)
unfolding insert
mem_inserted precedes x [] = Memᴰ.head refl
mem_inserted precedes x (y ∷ ys) = insert_cases (Memᴰ x) precedes x y ys (λ e. Memᴰ.head refl) (λ e. Memᴰ.tail (mem_inserted precedes x ys))

-- what is in a list stays in it when another is put in
pub mem_insert : (precedes : ℕ → ℕ → Bool) (x : ℕ) {z : ℕ} {xs : List ℕ} → Memᴰ z xs → Memᴰ z (insert precedes x xs)
mem_insert precedes x {z} (Memᴰ.head {x = y} {xs = ys} e) = insert_cases (Memᴰ z) precedes x y ys (λ p. Memᴰ.tail (Memᴰ.head e)) (λ p. Memᴰ.head e)
mem_insert precedes x {z} (Memᴰ.tail {x = y} {xs = ys} m) = insert_cases (Memᴰ z) precedes x y ys (λ p. Memᴰ.tail (Memᴰ.tail m)) (λ p. Memᴰ.tail (mem_insert precedes x m))

-- a member is a member of the sorted list
pub mem_sort : (precedes : ℕ → ℕ → Bool) {x : ℕ} {xs : List ℕ} → Memᴰ x xs → Memᴰ x (sort precedes xs)
unfolding sort
mem_sort precedes {x} (Memᴰ.head {x = y} {xs = ys} e) = subst (λ z. Memᴰ z (insert precedes y (sort precedes ys))) (sym e) (mem_inserted precedes y (sort precedes ys))
mem_sort precedes (Memᴰ.tail {x = y} {xs = ys} m) = mem_insert precedes y (mem_sort precedes m)

-- what is kept, or sorted, was there
pub mem_of_keep : (test : ℕ → Bool) {x : ℕ} (xs : List ℕ) → Memᴰ x (keep test xs) → Memᴰ x xs
mem_of_keep test xs m = all_at (λ y. Memᴰ y xs) m (all_keep (λ y. Memᴰ y xs) test xs (all_from xs (λ y n. n)))

pub mem_of_sort : (precedes : ℕ → ℕ → Bool) {x : ℕ} (xs : List ℕ) → Memᴰ x (sort precedes xs) → Memᴰ x xs
mem_of_sort precedes xs m = all_at (λ y. Memᴰ y xs) m (all_sort (λ y. Memᴰ y xs) precedes xs (all_from xs (λ y n. n)))

-- a number from i on and below i + n is one of the n numbers from i on
pub mem_up_from : (i n x : ℕ) → i ≤ x → x < i + n → Memᴰ x (up_from i n)
unfolding up_from
mem_up_from i zero x low high = absurd (omega arith)
mem_up_from i (suc n) x low high = ⊎_elim Memᴰ.head (λ d. Memᴰ.tail (mem_up_from (suc i) n x (omega arith) (omega arith))) (equal_or_not x i)

-- what stands at a place of a list is one of it
pub mem_get_or : (xs : List ℕ) (j : ℕ) → j < length xs → Memᴰ (get_or xs j 0) xs
mem_get_or [] j h = absurd (omega arith)
mem_get_or (x ∷ xs) zero h = Memᴰ.head refl
mem_get_or (x ∷ xs) (suc j) h = Memᴰ.tail (mem_get_or xs j (omega arith))

-- the n numbers from i on are n
pub length_up_from : (i n : ℕ) → length (up_from i n) ≡ n
unfolding up_from
length_up_from i zero = refl
length_up_from i (suc n) = ap suc (length_up_from (suc i) n)

-- the numbers from i on, in two parts
pub up_from_append : (i m n : ℕ) → up_from i (m + n) ≡ up_from i m ++ up_from (i + m) n
unfolding up_from
up_from_append i zero n = rw (zero-add n, add-zero i)
up_from_append i (suc m) n =
    let next : suc i + m ≡ i + suc m = omega arith in
    rw (suc-add m n, ← next) (ap (λ (xs : List ℕ). i ∷ xs) (up_from_append (suc i) m n))

-- with one put in there is one more
pub length_insert : (precedes : ℕ → ℕ → Bool) (x : ℕ) (xs : List ℕ) → length (insert precedes x xs) ≡ suc (length xs)
unfolding insert
length_insert precedes x [] = refl
length_insert precedes x (y ∷ ys) = insert_cases (λ zs. length zs ≡ suc (suc (length ys))) precedes x y ys (λ e. refl) (λ e. ap suc (length_insert precedes x ys))

-- the sorted list is as long
pub length_sort : (precedes : ℕ → ℕ → Bool) (xs : List ℕ) → length (sort precedes xs) ≡ length xs
unfolding sort
length_sort precedes [] = refl
length_sort precedes (x ∷ xs) = length_insert precedes x (sort precedes xs) ∙ ap suc (length_sort precedes xs)

-- the kept of the numbers after i are those of the numbers from i on that the test shifted by one keeps, each one higher
pub keep_shift : (test : ℕ → Bool) (i n : ℕ) → keep test (up_from (suc i) n) ≡ map suc (keep (λ x. test (suc x)) (up_from i n))
unfolding up_from keep
keep_shift test i zero = refl
keep_shift test i (suc n) = go (test (suc i)) refl (keep_shift test (suc i) n)
  where
    after : List ℕ
    after = up_from (suc i) n

    go :
        (b : Bool) → test (suc i) ≡ b
        → keep test (up_from (suc (suc i)) n) ≡ map suc (keep (λ x. test (suc x)) after)
        → keep test (suc i ∷ up_from (suc (suc i)) n) ≡ map suc (keep (λ x. test (suc x)) (i ∷ after))
    go true e h = rw (e, keep) (ap (λ (xs : List ℕ). suc i ∷ xs) h)
    go false e h = rw (e, keep) h

-- so they are as many
pub length_keep_shift : (test : ℕ → Bool) (i n : ℕ) → length (keep test (up_from (suc i) n)) ≡ length (keep (λ x. test (suc x)) (up_from i n))
length_keep_shift test i n = ap length (keep_shift test i n) ∙ length-map (keep (λ x. test (suc x)) (up_from i n)) suc

-- place k of what a function gives at the n numbers from i on
pub at_map_up_from : {A : Type 0} (f : ℕ → A) (i n k : ℕ) (default : A) → k < n → get_or (map f (up_from i n)) k default ≡ f (i + k)
unfolding up_from
at_map_up_from f i zero k default h = absurd (omega arith)
at_map_up_from f i (suc n) zero default h = ap f (omega arith)
at_map_up_from f i (suc n) (suc k) default h = at_map_up_from f (suc i) n k default (omega arith) ∙ ap f (omega arith)
