-- What an accepted placement promises of its rows, and that its figures are determined.
use mathlib.Core.Path.{◌≡◌, sym, ap, ◌∙◌, subst}
use Prim.Native.Nat.{ℕ, ◌≤◌, ◌<◌}
use native.Mathlib.Omega.{arith}
use mathlib.Core.List.{List}
use lib.ListN.{length}
use lib.Seq.{ext_get_or}
use Rattle.theory.specs.Row.{Row, row_at}
use Rattle.theory.specs.Response.{Meets, AllMeet, IsResponse}
use Rattle.theory.specs.Allowance.{IsAllowance}
use Rattle.placement.specs.Core.{Table, core_rows, place_on_core}
use Rattle.placement.specs.Choice.{Rule}
use Rattle.placement.specs.Figures.{Figures, figures_at, IsFigures, AreFigures, Certified}
use Rattle.theory.proofs.Response.{response_unique}
use Rattle.theory.proofs.Allowance.{allowance_unique}
use Rattle.placement.proofs.Core.{StandsAt, row_on_core}
use Rattle.placement.proofs.Moment.{OnSomeCore, underway, all_placed}

-- what a certificate says of row i: it is on a core of the table, it meets there, and by its deadline
pub record InTime (table : Table) (assignment : List ℕ) (i : ℕ) (figures : Figures) : Type 0 where
  pub from_one : 1 ≤ figures.core
  pub on_table : figures.core ≤ table.cores
  pub stands : StandsAt table.rows (core_rows table.rows assignment figures.core) i (place_on_core assignment i)
  pub core_meets : AllMeet (core_rows table.rows assignment figures.core)
  pub by_deadline : figures.response ≤ (row_at table.rows i).D

-- every row of an accepted placement is in time
pub certified_in_time :
    (rule : Rule) (table : Table) (all : List Figures) (c : Certified rule table all) (i : ℕ)
    → i < length table.rows
    → InTime table c.assignment i (figures_at all i)
certified_in_time rule table all c i h =
    record { from_one = from_one; on_table = omega (arith, on.on_table, figures.its_core); stands = stands; core_meets = core_meets; by_deadline = omega (arith, response, meets.by_deadline, ap (λ row. row.D) stands.same_row) }
  where
    figures : IsFigures table.rows c.assignment i (figures_at all i)
    figures = c.are_figures.right i h

    on : OnSomeCore table c.assignment i
    on = all_placed rule table c.assignment c.placed i h

    from_one : 1 ≤ (figures_at all i).core
    from_one = omega (arith, on.from_one, figures.its_core)

    core_meets : AllMeet (core_rows table.rows c.assignment (figures_at all i).core)
    core_meets = (underway rule table c.placed).cores_meet (figures_at all i).core from_one

    stands : StandsAt table.rows (core_rows table.rows c.assignment (figures_at all i).core) i (place_on_core c.assignment i)
    stands = rw figures.its_core (row_on_core table.rows c.assignment i (underway rule table c.placed).one_each h)

    meets : Meets (core_rows table.rows c.assignment (figures_at all i).core) (place_on_core c.assignment i)
    meets = core_meets (place_on_core c.assignment i) stands.in_core

    response : (figures_at all i).response ≡ meets.response
    response = response_unique (core_rows table.rows c.assignment (figures_at all i).core) (place_on_core c.assignment i) (figures_at all i).response meets.response figures.its_response meets.is_response

-- a row has one set of figures under an assignment
pub figures_unique : (rows : List Row) (assignment : List ℕ) (i : ℕ) (f g : Figures) → IsFigures rows assignment i f → IsFigures rows assignment i g → f ≡ g
figures_unique rows assignment i f g p q = λ j. record { core = core j; response = response j; allowance = allowance j }
  where
    core : f.core ≡ g.core
    core = p.its_core ∙ sym q.its_core

    response : f.response ≡ g.response
    response = response_unique (core_rows rows assignment g.core) (place_on_core assignment i) f.response g.response (subst (λ m. IsResponse (core_rows rows assignment m) (place_on_core assignment i) f.response) core p.its_response) q.its_response

    allowance : f.allowance ≡ g.allowance
    allowance = allowance_unique (core_rows rows assignment g.core) (place_on_core assignment i) f.allowance g.allowance (subst (λ m. IsAllowance (core_rows rows assignment m) (place_on_core assignment i) f.allowance) core p.its_allowance) q.its_allowance

-- the figures of all rows are determined by the assignment
pub all_figures_unique : (rows : List Row) (assignment : List ℕ) (f g : List Figures) → AreFigures rows assignment f → AreFigures rows assignment g → f ≡ g
all_figures_unique rows assignment f g p q =
    ext_get_or
    (record { core = 0; response = 0; allowance = 0 })
    f
    g
    (p.one_each ∙ sym q.one_each)
    (λ i h. figures_unique rows assignment i (figures_at f i) (figures_at g i) (p.right i (omega (arith, p.one_each))) (q.right i (omega (arith, p.one_each))))
