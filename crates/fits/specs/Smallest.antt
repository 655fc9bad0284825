-- The smallest of numbers.
use Rattle.std.specs.Prelude.{◌≡◌, ℕ, ◌<◌, List, ℤ, pos, get_or, ◌≤ℤ◌}

-- z is one of the first n numbers of a list, and at most each of them
pub record IsSmallest (numbers : List ℤ) (n : ℕ) (z : ℤ) : Type 0 where
  pub place : ℕ
  pub inside : place < n
  pub there : get_or numbers place (pos 0) ≡ z
  pub at_most_each : (i : ℕ) → i < n → z ≤ℤ get_or numbers i (pos 0)
