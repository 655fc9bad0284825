-- The response time of a row in a list, by its deadline.
use Rattle.std.specs.Prelude.{ℕ, ◌≤◌, List, get_or}
use Rattle.theory.specs.Row.{Row, row_at}
use Rattle.theory.specs.Response.{IsResponse}

-- a list has at each row's place its response time, which is at most its deadline
pub record RespondsInTime (rows : List Row) (responses : List ℕ) (k : ℕ) : Type 0 where
  pub is_response : IsResponse rows k (get_or responses k 0)
  pub by_deadline : get_or responses k 0 ≤ (row_at rows k).D
