-- Candidates for a row, and the choice between them. The rule of choice is a parameter of all that follows.
use Rattle.std.specs.Prelude.{◌≡◌, ℕ, ◌≤◌, Bool, ◌⊎◌, List, T, set}
use Rattle.theory.specs.Row.{Row}
use Rattle.theory.specs.Gather.{less_or_tied}
use Rattle.theory.specs.Response.{AllMeet}
use Rattle.theory.specs.Allowance.{IsCoreAllowance}
use Rattle.placement.specs.Core.{Table, core_rows}

-- a core with its core allowance, the new row counted
pub record Candidate : Type 0 where
  pub core : ℕ
  pub allowance : ℕ

-- the rows of core m with row i among them
abbrev pub joined : Table → List ℕ → ℕ → ℕ → List Row
joined table assignment i m = core_rows table.rows (set assignment i m) m

-- a core is a candidate for row i when its rows with row i all meet
pub record IsCandidate (table : Table) (assignment : List ℕ) (i : ℕ) (candidate : Candidate) : Type 0 where
  pub from_one : 1 ≤ candidate.core
  pub on_table : candidate.core ≤ table.cores
  pub all_meet : AllMeet (joined table assignment i candidate.core)
  pub its_allowance : IsCoreAllowance (joined table assignment i candidate.core) candidate.allowance

-- a rule of choice: whether the first candidate is preferred to the second
abbrev pub Rule : Type 0
Rule = Candidate → Candidate → Bool

-- what a rule has to be for the choice to be there and to be one: of candidates with different core numbers it prefers one, and it goes in no circle
pub record IsRule (rule : Rule) : Type 0 where
  pub transitive : (c d e : Candidate) → T (rule c d) → T (rule d e) → T (rule c e)
  pub asymmetric : (c d : Candidate) → T (rule c d) → T (rule d c) → ⊥
  pub decides : (c d : Candidate) → (c.core ≡ d.core → ⊥) → T (rule c d) ⊎ T (rule d c)

-- Allowance-Fit: the greater core allowance; on a tie, the lower core number
abbrev pub allowance_fit : Rule
allowance_fit c d = less_or_tied d.allowance c.allowance c.core d.core

-- row i goes to core m: a candidate to which the rule prefers no other
pub record IsChosen (rule : Rule) (table : Table) (assignment : List ℕ) (i m : ℕ) : Type 0 where
  pub choice : Candidate
  pub its_core : choice.core ≡ m
  pub is_candidate : IsCandidate table assignment i choice
  pub none_preferred : (other : Candidate) → IsCandidate table assignment i other → T (rule other choice) → ⊥

-- no core takes row i
abbrev pub NoCandidate : Table → List ℕ → ℕ → Type 0
NoCandidate table assignment i = (candidate : Candidate) → IsCandidate table assignment i candidate → ⊥
