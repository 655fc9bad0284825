-- Numbers written to places of a list.
use Rattle.std.specs.Prelude.{ℕ, List, [], ◌∷◌, set}

-- a list with the first of the numbers at the first of the places, and so on
unfoldable pub scattered : List ℕ → List ℕ → List ℕ → List ℕ
scattered list [] numbers = list
scattered list (place ∷ places) [] = list
scattered list (place ∷ places) (number ∷ numbers) = scattered (set list place number) places numbers
