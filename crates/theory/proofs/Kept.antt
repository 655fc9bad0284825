-- What is kept of a list: of two lists, of one number more, and of a list in order.
use mathlib.Core.Path.{◌≡◌, refl, sym, ◌∙◌, ap}
use Prim.Native.Nat.{ℕ, suc, ◌+◌, ◌≤◌, ◌<◌}
use mathlib.Core.Bool.{Bool, true, false}
use mathlib.Core.Logic.{◌⊎◌}
use mathlib.Core.List.{List, [], ◌∷◌, ◌++◌, append-nil}
use native.Mathlib.Omega.{arith}
use native.Mathlib.Nat.{le_refl}
use native.Mathlib.Numerals.{add-one}
use lib.Dec.{T}
use lib.ListN.{length, get_or, take}
use lib.Seq.{take-suc}
use Rattle.theory.specs.Gather.{keep, insert, sort, All}
use Rattle.theory.proofs.Each.{keep_cases, insert_cases, true_of, T_true, all_map, all_keep}
use Rattle.theory.proofs.Order.{Ordered, sort_ordered}
use Rattle.theory.proofs.InPlace.{insert_before, insert_behind}

-- a number that passes is kept
pub keep_passes_first : (test : ℕ → Bool) (x : ℕ) (xs : List ℕ) → test x ≡ true → keep test (x ∷ xs) ≡ x ∷ keep test xs
unfolding keep
keep_passes_first test x xs e = rw (e, keep)

-- one that fails is not
pub keep_fails_first : (test : ℕ → Bool) (x : ℕ) (xs : List ℕ) → test x ≡ false → keep test (x ∷ xs) ≡ keep test xs
unfolding keep
keep_fails_first test x xs e = rw (e, keep)

-- what is kept of a joined list
pub keep_append : (test : ℕ → Bool) (xs ys : List ℕ) → keep test (xs ++ ys) ≡ keep test xs ++ keep test ys
unfolding keep
keep_append test [] ys = refl
keep_append test (x ∷ xs) ys =
    keep_cases (λ zs. keep test (x ∷ xs ++ ys) ≡ zs ++ keep test ys) test x xs
    (λ e. keep_passes_first test x (xs ++ ys) e ∙ ap (λ (zs : List ℕ). x ∷ zs) (keep_append test xs ys))
    (λ e. keep_fails_first test x (xs ++ ys) e ∙ keep_append test xs ys)

-- no more are kept than there are
pub length_keep_le : (test : ℕ → Bool) (xs : List ℕ) → length (keep test xs) ≤ length xs
unfolding keep
length_keep_le test [] = le_refl 0
length_keep_le test (x ∷ xs) =
    keep_cases (λ zs. length zs ≤ suc (length xs)) test x xs (λ e. omega (arith, length_keep_le test xs)) (λ e. omega (arith, length_keep_le test xs))

module _ (test : ℕ → Bool) (xs : List ℕ) (j : ℕ) (inside : j < length xs) where
  -- of one entry more, what is kept of it comes last
  keep_next : keep test (take (j + 1) xs) ≡ keep test (take j xs) ++ keep test (get_or xs j 0 ∷ [])
  keep_next = rw (add-one j, take-suc xs j 0 inside) (keep_append test (take j xs) (get_or xs j 0 ∷ []))

  -- of one entry more, where it passes
  pub keep_next_passes : test (get_or xs j 0) ≡ true → keep test (take (j + 1) xs) ≡ keep test (take j xs) ++ (get_or xs j 0 ∷ [])
  unfolding keep
  keep_next_passes e = keep_next ∙ ap (λ (ys : List ℕ). keep test (take j xs) ++ ys) (keep_passes_first test (get_or xs j 0) [] e)

  -- of one entry more, where it fails
  pub keep_next_fails : test (get_or xs j 0) ≡ false → keep test (take (j + 1) xs) ≡ keep test (take j xs)
  unfolding keep
  keep_next_fails e =
      keep_next ∙ ap (λ (ys : List ℕ). keep test (take j xs) ++ ys) (keep_fails_first test (get_or xs j 0) [] e) ∙ append-nil (keep test (take j xs))

-- one that precedes each of a list is put at its front
insert_first : (precedes : ℕ → ℕ → Bool) (x : ℕ) (ys : List ℕ) → All (λ y. T (precedes x y)) ys → insert precedes x ys ≡ x ∷ ys
unfolding insert
insert_first precedes x [] h = refl
insert_first precedes x (y ∷ ys) h = insert_before precedes x y ys (true_of (precedes x y) h.0)

-- one that fails is not kept, wherever it is put
keep_insert_fails : (test : ℕ → Bool) (precedes : ℕ → ℕ → Bool) (x : ℕ) (ys : List ℕ) → test x ≡ false → keep test (insert precedes x ys) ≡ keep test ys
unfolding insert
keep_insert_fails test precedes x [] e = keep_fails_first test x [] e
keep_insert_fails test precedes x (y ∷ ys) e =
    insert_cases (λ zs. keep test zs ≡ keep test (y ∷ ys)) precedes x y ys
    (λ p. keep_fails_first test x (y ∷ ys) e)
    (λ p.
    keep_append test (y ∷ []) (insert precedes x ys)
    ∙ ap (λ (zs : List ℕ). keep test (y ∷ []) ++ zs) (keep_insert_fails test precedes x ys e)
    ∙ sym (keep_append test (y ∷ []) ys))

module _ (test : ℕ → Bool) (precedes : ℕ → ℕ → Bool) (transitive : (x y z : ℕ) → T (precedes x y) → T (precedes y z) → T (precedes x z)) where
  -- one that passes is put among the kept of a list in order as it is among all
  keep_insert_passes : (x : ℕ) (ys : List ℕ) → test x ≡ true → Ordered (λ y z. T (precedes y z)) ys → keep test (insert precedes x ys) ≡ insert precedes x (keep test ys)
  unfolding insert keep
  keep_insert_passes x [] e o = keep_passes_first test x [] e
  keep_insert_passes x (y ∷ ys) e o =
      insert_cases (λ zs. keep test zs ≡ insert precedes x (keep test (y ∷ ys))) precedes x y ys
      (λ p.
      let each : All (λ z. T (precedes x z)) (y ∷ ys) = (T_true (precedes x y) p, all_map ys (λ z. transitive x y z (T_true (precedes x y) p)) o.0) in
      keep_passes_first test x (y ∷ ys) e ∙ sym (insert_first precedes x (keep test (y ∷ ys)) (all_keep (λ z. T (precedes x z)) test (y ∷ ys) each)))
      (λ p.
      keep_cases (λ zs. keep test (y ∷ insert precedes x ys) ≡ insert precedes x zs) test y ys
      (λ t.
      keep_passes_first test y (insert precedes x ys) t
      ∙ ap (λ (zs : List ℕ). y ∷ zs) (keep_insert_passes x ys e o.1)
      ∙ sym (insert_behind precedes x y (keep test ys) p))
      (λ t. keep_fails_first test y (insert precedes x ys) t ∙ keep_insert_passes x ys e o.1))

  module _ (connected : (x y : ℕ) → x < y → T (precedes x y) ⊎ T (precedes y x)) where
    -- the kept of an ascending list that is sorted are the kept, sorted
    pub keep_sort : (xs : List ℕ) → Ordered ◌<◌ xs → keep test (sort precedes xs) ≡ sort precedes (keep test xs)
    unfolding keep sort
    keep_sort [] o = refl
    keep_sort (x ∷ xs) o =
        keep_cases (λ zs. keep test (insert precedes x (sort precedes xs)) ≡ sort precedes zs) test x xs
        (λ e.
        keep_insert_passes x (sort precedes xs) e (sort_ordered precedes transitive connected xs o.1)
        ∙ ap (insert precedes x) (keep_sort xs o.1))
        (λ e. keep_insert_fails test precedes x (sort precedes xs) e ∙ keep_sort xs o.1)
