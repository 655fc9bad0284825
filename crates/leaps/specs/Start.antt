-- Where the climb of a row starts by document 02, request 3.
use Rattle.std.specs.Prelude.{ℕ, ◌+◌, ◌≤◌, List}
use Rattle.theory.specs.Row.{Row, row_at}
use Rattle.theory.specs.Rank.{rivals}
use Rattle.theory.specs.Response.{own}
use Rattle.theory.specs.Gather.{sum}
use Rattle.theory.specs.Climb.{Start}

-- C_k plus the C of all rows in the sum, since each of them runs at least once
unfoldable pub start_of : List Row → ℕ → ℕ
start_of rows k = own (row_at rows k) + sum (λ h. (row_at rows h).C) (rivals rows k)

-- a start that is not below the value at 1, in which each row of the sum runs once
pub record StartFromFirst (next : ℕ → ℕ) (t : ℕ) : Type 0 where
  pub may_start : Start next t
  pub from_first : next 1 ≤ t
