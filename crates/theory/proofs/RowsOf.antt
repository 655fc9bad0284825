-- The rows that three lists are: how many, and what stands at a place.
use mathlib.Core.Path.{◌≡◌, refl, ap}
use Prim.Native.Nat.{ℕ, zero, suc}
use mathlib.Core.List.{List, [], ◌∷◌, map}
use native.Mathlib.Omega.{arith}
use lib.ListN.{length, get_or}
use Rattle.theory.specs.Row.{row_at}
use Rattle.theory.specs.Lists.{rows_of}

pub rows_of_length : (cs ds ts : List ℕ) → length ds ≡ length cs → length ts ≡ length cs → length (rows_of cs ds ts) ≡ length cs
unfolding rows_of
rows_of_length [] ds ts d t = refl
rows_of_length (c ∷ cs) [] ts d t = absurd (omega arith)
rows_of_length (c ∷ cs) (x ∷ ds) [] d t = absurd (omega arith)
rows_of_length (c ∷ cs) (x ∷ ds) (y ∷ ts) d t = ap suc (rows_of_length cs ds ts (omega arith) (omega arith))

-- at each place, past the end too, the row that the lists' numbers are
pub row_of_lists : (cs ds ts : List ℕ) → length ds ≡ length cs → length ts ≡ length cs
    → (k : ℕ)
    → row_at (rows_of cs ds ts) k ≡ record { C = get_or cs k 0; D = get_or ds k 0; T = get_or ts k 0 }
unfolding rows_of
row_of_lists [] [] [] d t k = refl
row_of_lists [] [] (y ∷ ts) d t k = absurd (omega arith)
row_of_lists [] (x ∷ ds) ts d t k = absurd (omega arith)
row_of_lists (c ∷ cs) [] ts d t k = absurd (omega arith)
row_of_lists (c ∷ cs) (x ∷ ds) [] d t k = absurd (omega arith)
row_of_lists (c ∷ cs) (x ∷ ds) (y ∷ ts) d t zero = refl
row_of_lists (c ∷ cs) (x ∷ ds) (y ∷ ts) d t (suc k) = row_of_lists cs ds ts (omega arith) (omega arith) k

-- the numbers at some places are the rows at those places
pub rows_of_places : (cs ds ts : List ℕ) → length ds ≡ length cs → length ts ≡ length cs
    → (places : List ℕ)
    → rows_of (map (λ h. get_or cs h 0) places) (map (λ h. get_or ds h 0) places) (map (λ h. get_or ts h 0) places) ≡ map (row_at (rows_of cs ds ts)) places
unfolding rows_of
rows_of_places cs ds ts d t [] = refl
rows_of_places cs ds ts d t (h ∷ places) = cc (row_of_lists cs ds ts d t h, rows_of_places cs ds ts d t places)
