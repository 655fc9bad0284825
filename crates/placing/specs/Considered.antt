-- The choice with one core more.
use Rattle.std.specs.Prelude.{ℕ, Option, Some, None}
use Rattle.placement.specs.Choice.{Rule}
use Rattle.choices.specs.declared.Candidate.{Candidate}
use Rattle.choices.specs.Among.{counted}

-- a core that takes the row is counted as a candidate; one that does not leaves the choice as it is
abbrev pub considered : Rule → Option Candidate → ℕ → Option ℕ → Option Candidate
considered rule choice core (Some allowance) = counted rule choice (record { core = core; allowance = allowance })
considered rule choice core None = choice
