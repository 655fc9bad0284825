-- What stands in a list to whose places numbers were written, and one number more.
use mathlib.Core.Path.{◌≡◌, refl, ◌∙◌}
use Prim.Native.Nat.{ℕ, zero, suc, ◌<◌}
use mathlib.Core.Logic.{◌⊎◌, inl, inr}
use mathlib.Core.List.{List, [], ◌∷◌}
use native.Mathlib.Omega.{arith}
use lib.ListN.{length, get_or, set, length-set}
use lib.Seq.{get_or-set_same, get_or-set_other}
use Rattle.theory.specs.Gather.{All}
use Rattle.theory.proofs.Each.{all_map}
use Rattle.theory.proofs.Order.{Ordered}
use Rattle.figures.specs.Scattered.{scattered}

-- the list stays as long as it is
pub scattered_length : (list places numbers : List ℕ) → length (scattered list places numbers) ≡ length list
unfolding scattered
scattered_length list [] numbers = refl
scattered_length list (place ∷ places) [] = refl
scattered_length list (place ∷ places) (number ∷ numbers) = scattered_length (set list place number) places numbers ∙ length-set list place number

-- what stands at no such place stays
pub scattered_elsewhere : (list places numbers : List ℕ) (i : ℕ) → All (λ p. i ≡ p → ⊥) places → get_or (scattered list places numbers) i 0 ≡ get_or list i 0
unfolding scattered
scattered_elsewhere list [] numbers i other = refl
scattered_elsewhere list (place ∷ places) [] i other = refl
scattered_elsewhere list (place ∷ places) (number ∷ numbers) i other =
    scattered_elsewhere (set list place number) places numbers i other.1 ∙ get_or-set_other list place i number 0 other.0

-- at each place stands its number, where no place comes twice
pub scattered_at : (list places numbers : List ℕ) → length numbers ≡ length places → All (λ h. h < length list) places → Ordered (λ p q. p ≡ q → ⊥) places
    → (j : ℕ) → j < length places
    → get_or (scattered list places numbers) (get_or places j 0) 0 ≡ get_or numbers j 0
unfolding scattered
scattered_at list [] numbers same inside once j h = absurd (omega arith)
scattered_at list (place ∷ places) [] same inside once j h = absurd (omega arith)
scattered_at list (place ∷ places) (number ∷ numbers) same inside once zero h =
    scattered_elsewhere (set list place number) places numbers place once.0 ∙ get_or-set_same list place number 0 inside.0
scattered_at list (place ∷ places) (number ∷ numbers) same inside once (suc j) h =
    scattered_at (set list place number) places numbers (omega arith) (all_map places (λ p l. omega (arith, length-set list place number)) inside.1) once.1 j (omega arith)

-- the work that is left, begun with its first number
pub scattered_next : (list places numbers places' numbers' : List ℕ) {place number : ℕ} → places ≡ place ∷ places' → numbers ≡ number ∷ numbers'
    → scattered (set list place number) places' numbers' ≡ scattered list places numbers
unfolding scattered
scattered_next list places numbers places' numbers' e f = rw (e, f) refl

-- behind the last place or number nothing is left
pub scattered_done : (list places numbers : List ℕ) → (places ≡ []) ⊎ (numbers ≡ []) → scattered list places numbers ≡ list
unfolding scattered
scattered_done list [] numbers none = refl
scattered_done list (place ∷ places) [] none = refl
scattered_done list (place ∷ places) (number ∷ numbers) (inl none) = absurd (cc)
scattered_done list (place ∷ places) (number ∷ numbers) (inr none) = absurd (cc)
