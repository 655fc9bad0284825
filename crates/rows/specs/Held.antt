-- Rows in memory as the code holds them: how many, and at the fronts of three arrays of 24 the C, D and T of each.
use Rattle.std.specs.Prelude.{◌≡◌, ℕ, ◌≤◌, List, length, take}
use Rattle.theory.specs.Row.{Row}
use Rattle.theory.specs.Lists.{rows_of}

-- the rows at the fronts of three arrays
abbrev pub held_rows : ℕ → List ℕ → List ℕ → List ℕ → List Row
held_rows n c d t = rows_of (take n c) (take n d) (take n t)

-- at most 24 rows, in arrays of 24
pub record Held (n : ℕ) (c d t : List ℕ) : Type 0 where
  pub no_25th_row : n ≤ 24
  pub c_long : length c ≡ 24
  pub d_long : length d ≡ 24
  pub t_long : length t ≡ 24
