-- The placement, one step after the other. It ends with no row left to take, or stops at a row that no core takes (refusal 6).
use Rattle.std.specs.Prelude.{ℕ, List, ◌∷◌, length, set, replicate}
use Rattle.placement.specs.Core.{Table}
use Rattle.placement.specs.Order.{taken}
use Rattle.placement.specs.Choice.{Rule, IsChosen, NoCandidate}

-- the moments that the work comes to: the assignment then, and the rows still to be taken, in their order
pub data Moment (rule : Rule) (table : Table) : List ℕ → List ℕ → Type 0 where
  start : Moment rule table (replicate (length table.rows) 0) (taken table.rows)
  step :
      {assignment : List ℕ} {i : ℕ} {rest : List ℕ} {m : ℕ}
      → Moment rule table assignment (i ∷ rest)
      → IsChosen rule table assignment i m
      → Moment rule table (set assignment i m) rest

-- row i is the next to be taken, and no core is a candidate for it
pub record Stopped (rule : Rule) (table : Table) (i : ℕ) : Type 0 where
  pub assignment : List ℕ
  pub rest : List ℕ
  pub moment : Moment rule table assignment (i ∷ rest)
  pub no_candidate : NoCandidate table assignment i
