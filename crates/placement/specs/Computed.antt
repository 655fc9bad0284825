-- The placement as a computation: its steps, its run, and the certificate that comes out. `proofs/Computed.antt` says that it is the stated one.
use Rattle.std.specs.Prelude.{ℕ, Bool, List, [], ◌∷◌, map, length, set, replicate}
use Rattle.theory.specs.Row.{Row}
use Rattle.theory.specs.Gather.{up_from, keep, best}
use Rattle.theory.specs.Rank.{places}
use Rattle.theory.specs.Response.{Outcome, responds, misses, outcome, on_time}
use Rattle.theory.specs.Points.{allowance, core_allowance}
use Rattle.placement.specs.Core.{Table, core_rows, core_of, place_on_core}
use Rattle.placement.specs.Order.{taken}
use Rattle.placement.specs.Choice.{Candidate, Rule, joined}
use Rattle.placement.specs.Figures.{Figures, Certificate, certified, no_core_takes}

-- whether core m's rows with row i all meet
unfoldable pub takes : Table → List ℕ → ℕ → ℕ → Bool
takes table assignment i m = on_time (joined table assignment i m)

-- core m with its core allowance, row i counted
unfoldable pub candidate_at : Table → List ℕ → ℕ → ℕ → Candidate
candidate_at table assignment i m = record { core = m; allowance = core_allowance (joined table assignment i m) }

-- the core numbers of the candidates for row i, from 1 up
unfoldable pub takers : Table → List ℕ → ℕ → List ℕ
takers table assignment i = keep (takes table assignment i) (up_from 1 table.cores)

-- what one step of the placement comes to: a core takes the row, or none
pub data Step : Type 0 where
  to_core : ℕ → Step
  no_core : Step

-- of the candidates, in their order, the one that the rule leaves: a later one takes the place of the one in hand where the rule prefers it
unfoldable pub chosen_of : Rule → List Candidate → Step
chosen_of rule [] = no_core
chosen_of rule (c ∷ cs) = to_core (best rule c cs).core

-- the step for row i
unfoldable pub step_of : Rule → Table → List ℕ → ℕ → Step
step_of rule table assignment i = chosen_of rule (map (candidate_at table assignment i) (takers table assignment i))

-- what the run of the steps comes to: an assignment with no row left to take, or the row that no core takes
pub data Run : Type 0 where
  placed : List ℕ → Run
  stopped_at : ℕ → Run

unfoldable pub run : Rule → Table → List ℕ → List ℕ → Run
run rule table assignment [] = placed assignment
run rule table assignment (i ∷ rest) =
    elim (step_of rule table assignment i) [
      | to_core m ↦ run rule table (set assignment i m) rest
      | no_core ↦ stopped_at i
    ]

-- the response time of an outcome in time
abbrev pub response_of : Outcome → ℕ
response_of (responds R) = R
response_of misses = 0

-- the figures of row i under an assignment
unfoldable pub figures_of : List Row → List ℕ → ℕ → Figures
figures_of rows assignment i =
    record {
      core = core_of assignment i;
      response = response_of (outcome (core_rows rows assignment (core_of assignment i)) (place_on_core assignment i));
      allowance = allowance (core_rows rows assignment (core_of assignment i)) (place_on_core assignment i);
    }

-- the certificate of a run
unfoldable pub certificate_of : List Row → Run → Certificate
certificate_of rows (placed assignment) = certified (map (figures_of rows assignment) (places rows))
certificate_of rows (stopped_at i) = no_core_takes i

-- the certificate of a table
unfoldable pub certificate : Rule → Table → Certificate
certificate rule table = certificate_of table.rows (run rule table (replicate (length table.rows) 0) (taken table.rows))
