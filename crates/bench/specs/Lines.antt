-- What the bench program prints.
use Rattle.std.specs.Prelude.{ℕ, ◌≤◌, List, length, take}
use Rattle.placement.specs.Choice.{allowance_fit}
use Rattle.service.specs.Table.{Listed}

-- the first n bytes of a text are the lines for a table, and there are some
pub record HasLines (table text : List ℕ) (n : ℕ) : Type 0 where
  pub listed : Listed allowance_fit table (take n text)
  pub some : 1 ≤ n
  pub inside : n ≤ length text
