-- The figures of an accepted placement: demand 2, and document 01, "Allowance".
use Rattle.std.specs.Prelude.{◌≡◌, ℕ, ◌≤◌, ◌<◌, List, [], ◌∷◌, length, get_or}
use Rattle.theory.specs.Row.{Row}
use Rattle.theory.specs.Response.{IsResponse}
use Rattle.theory.specs.Allowance.{IsAllowance}
use Rattle.placement.specs.Core.{Table, core_rows, core_of, place_on_core}
use Rattle.placement.specs.Choice.{Rule}
use Rattle.placement.specs.Placement.{Moment, Stopped}

-- what the certificate says of a row
pub record Figures : Type 0 where
  pub core : ℕ
  pub response : ℕ
  pub allowance : ℕ

-- the figures of row i under an assignment: its core, and its response time and allowance among that core's rows
pub record IsFigures (rows : List Row) (assignment : List ℕ) (i : ℕ) (figures : Figures) : Type 0 where
  pub its_core : figures.core ≡ core_of assignment i
  pub its_response : IsResponse (core_rows rows assignment figures.core) (place_on_core assignment i) figures.response
  pub its_allowance : IsAllowance (core_rows rows assignment figures.core) (place_on_core assignment i) figures.allowance

-- the figures that three lists of one length are
unfoldable pub figures_from : List ℕ → List ℕ → List ℕ → List Figures
figures_from [] responses allowances = []
figures_from (core ∷ cores) [] allowances = []
figures_from (core ∷ cores) (response ∷ responses) [] = []
figures_from (core ∷ cores) (response ∷ responses) (allowance ∷ allowances) =
    record { core = core; response = response; allowance = allowance } ∷ figures_from cores responses allowances

-- the figures at a place of a list of them
abbrev pub figures_at : List Figures → ℕ → Figures
figures_at all i = get_or all i (record { core = 0; response = 0; allowance = 0 })

-- the figures of all rows, in table order
pub record AreFigures (rows : List Row) (assignment : List ℕ) (all : List Figures) : Type 0 where
  pub one_each : length all ≡ length rows
  pub right : (i : ℕ) → i < length rows → IsFigures rows assignment i (figures_at all i)

-- each row placed by the rule, with its figures
pub record Certified (rule : Rule) (table : Table) (all : List Figures) : Type 0 where
  pub assignment : List ℕ
  pub placed : Moment rule table assignment []
  pub are_figures : AreFigures table.rows assignment all

-- what the certificate of a table comes to: the figures of its rows, or the row that no core takes
pub data Certificate : Type 0 where
  certified : List Figures → Certificate
  no_core_takes : ℕ → Certificate

abbrev pub IsCertificate : Rule → Table → Certificate → Type 0
IsCertificate rule table (certified all) = Certified rule table all
IsCertificate rule table (no_core_takes i) = Stopped rule table i

-- the system's allowance: the smallest of all rows'
pub record IsSystemAllowance (all : List Figures) (a : ℕ) : Type 0 where
  pub row : ℕ
  pub in_table : row < length all
  pub its_allowance : (figures_at all row).allowance ≡ a
  pub smallest : (i : ℕ) → i < length all → a ≤ (figures_at all i).allowance
