-- The arrays in which the code holds a certificate.
use Rattle.std.specs.Prelude.{◌≡◌, ℕ, ◌≤◌, List, length}

-- at most 24 rows, in arrays of 24
pub record Long (n : ℕ) (core response allowance : List ℕ) : Type 0 where
  pub no_25th_row : n ≤ 24
  pub core_long : length core ≡ 24
  pub response_long : length response ≡ 24
  pub allowance_long : length allowance ≡ 24
