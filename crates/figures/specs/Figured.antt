-- The response times and allowances of a core's rows, at the rows' places in the lists for the table.
use Rattle.std.specs.Prelude.{◌≡◌, ℕ, List}
use Rattle.theory.specs.Row.{Row}
use Rattle.theory.specs.Response.{IsResponse}
use Rattle.theory.specs.Allowance.{IsAllowance}
use Rattle.theory.specs.Lists.{ForEach}
use Rattle.figures.specs.Scattered.{scattered}

-- the response times and allowances of a core's rows are written to their places, and nothing else is
pub record CoreFigured (on_core : List Row) (places responses allowances responses' allowances' : List ℕ) : Type 0 where
  pub core_responses : List ℕ
  pub core_allowances : List ℕ
  pub are_responses : ForEach on_core (IsResponse on_core) core_responses
  pub are_allowances : ForEach on_core (IsAllowance on_core) core_allowances
  pub responses_written : responses' ≡ scattered responses places core_responses
  pub allowances_written : allowances' ≡ scattered allowances places core_allowances
