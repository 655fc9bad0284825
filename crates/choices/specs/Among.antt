-- The choice for a row among the first cores of a table, as the code holds it.
use Rattle.std.specs.Prelude.{ℕ, ◌≤◌, true, false, List, T, Option, Some, None}
use Rattle.placement.specs.Core.{Table}
use Rattle.placement.specs.Choice.{Candidate, Rule, IsCandidate}
use Rattle.choices.specs.declared.Candidate.{Candidate as HeldCandidate}

-- the candidate that a value is
abbrev pub candidate_of : HeldCandidate → Candidate
candidate_of held = record { core = held.core; allowance = held.allowance }

-- the choice with one candidate more: it takes the place of the one in hand where the rule prefers it
abbrev pub counted : Rule → Option HeldCandidate → HeldCandidate → Option HeldCandidate
counted rule None candidate = Some candidate
counted rule (Some other) candidate = elim (rule (candidate_of candidate) (candidate_of other)) [ true ↦ Some candidate | false ↦ Some other ]

-- a candidate among the first m cores, to which the rule prefers no other of them
pub record BestAmong (rule : Rule) (table : Table) (assignment : List ℕ) (i m : ℕ) (candidate : Candidate) : Type 0 where
  pub is_candidate : IsCandidate table assignment i candidate
  pub none_preferred : (other : Candidate) → other.core ≤ m → IsCandidate table assignment i other → T (rule other candidate) → ⊥

-- what is chosen among the first m cores: none where there is no candidate, else a best one
abbrev pub IsChoiceAmong : Rule → Table → List ℕ → ℕ → ℕ → Option HeldCandidate → Type 0
IsChoiceAmong rule table assignment i m None = (other : Candidate) → other.core ≤ m → IsCandidate table assignment i other → ⊥
IsChoiceAmong rule table assignment i m (Some candidate) = BestAmong rule table assignment i m (candidate_of candidate)
