-- The outcome of a climb, as the code's answer.
use Rattle.std.specs.Prelude.{ℕ, Option, Some, None}
use Rattle.theory.specs.Response.{Outcome, responds, misses}

-- the outcome that an answer of the climb is
abbrev pub outcome_of : Option ℕ → Outcome
outcome_of (Some R) = responds R
outcome_of None = misses
