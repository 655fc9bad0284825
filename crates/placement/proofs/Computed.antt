-- The computed certificate is the stated one, by every rule of choice.
use mathlib.Core.Path.{◌≡◌, refl, ◌∙◌}
use Prim.Native.Nat.{ℕ, ◌<◌}
use native.Mathlib.Nat.{zero-add}
use mathlib.Core.List.{List, [], ◌∷◌, map}
use lib.ListN.{length, set, replicate, length-map}
use Rattle.theory.specs.Row.{Row, WithinLimits, AllWithin}
use Rattle.theory.specs.Rank.{places}
use Rattle.theory.specs.Response.{Outcome, responds, misses, outcome, AllMeet, Meets, IsResponse, IsOutcome}
use Rattle.theory.proofs.Response.{outcome_right}
use Rattle.theory.proofs.Verdict.{within_steady}
use Rattle.theory.proofs.Allowance.{allowance_is}
use Rattle.theory.proofs.Member.{at_map_up_from, length_up_from}
use Rattle.placement.specs.Core.{Table, core_rows, core_of, place_on_core}
use Rattle.placement.specs.Order.{taken}
use Rattle.placement.specs.Choice.{Rule, IsRule}
use Rattle.placement.specs.Placement.{Moment, start, step, Stopped}
use Rattle.placement.specs.Figures.{IsFigures, AreFigures, Certificate, IsCertificate}
use Rattle.placement.specs.Computed.{Step, to_core, no_core, step_of, Run, placed, stopped_at, run, response_of, figures_of, certificate_of, certificate}
use Rattle.placement.proofs.Core.{core_rows_each, StandsAt, row_on_core}
use Rattle.placement.proofs.Moment.{Underway, underway, all_placed}
use Rattle.placement.proofs.Determined.{certificate_unique}
use Rattle.placement.proofs.Step.{IsStep, step_is}

-- what a run from a moment comes to
abbrev pub IsRun : Rule → Table → Run → Type 0
IsRun rule table (placed assignment) = Moment rule table assignment []
IsRun rule table (stopped_at i) = Stopped rule table i

-- the response time that a row which meets has, of its outcome
pub response_of_is : (rows : List Row) (k : ℕ) (o : Outcome) → IsOutcome rows k o → Meets rows k → IsResponse rows k (response_of o)
response_of_is rows k (responds R) h meets = h.0
response_of_is rows k misses h meets = absurd (h meets)

module _ (table : Table) (within : AllWithin table.rows) (rule : Rule) where
  -- the computed figures of a row are the stated ones
  pub figures_of_is :
      (assignment : List ℕ)
      → Moment rule table assignment []
      → (i : ℕ)
      → i < length table.rows
      → IsFigures table.rows assignment i (figures_of table.rows assignment i)
  unfolding figures_of
  figures_of_is assignment moment i h =
      record {
        its_core = refl;
        its_response = response_of_is on_core place (outcome on_core place) (outcome_right on_core place (keeps place stands.in_core).runs) (meet place stands.in_core);
        its_allowance = allowance_is on_core (within_steady on_core keeps) place stands.in_core meet;
      }
    where
      on_core : List Row
      on_core = core_rows table.rows assignment (core_of assignment i)

      place : ℕ
      place = place_on_core assignment i

      keeps : AllWithin on_core
      keeps = core_rows_each WithinLimits table.rows assignment (core_of assignment i) within

      stands : StandsAt table.rows on_core i place
      stands = row_on_core table.rows assignment i (underway rule table moment).one_each h

      meet : AllMeet on_core
      meet = (underway rule table moment).cores_meet (core_of assignment i) (all_placed rule table assignment moment i h).from_one

  -- the computed figures of all rows are the stated ones
  pub all_figures_are :
      (assignment : List ℕ)
      → Moment rule table assignment []
      → AreFigures table.rows assignment (map (figures_of table.rows assignment) (places table.rows))
  all_figures_are assignment moment =
      record {
        one_each = length-map (places table.rows) (figures_of table.rows assignment) ∙ length_up_from 0 (length table.rows);
        right = λ i h. rw (at_map_up_from (figures_of table.rows assignment) 0 (length table.rows) i (record { core = 0; response = 0; allowance = 0 }) h, zero-add i) (figures_of_is assignment moment i h);
      }

  module _ (is-rule : IsRule rule) where
    -- a run from a moment ends at a moment with no row left, or stops where no core takes the next row
    pub run_is : (assignment rest : List ℕ) → Moment rule table assignment rest → IsRun rule table (run rule table assignment rest)
    unfolding run
    run_is assignment [] moment = moment
    run_is assignment (i ∷ rest) moment = go (step_of rule table assignment i) (step_is table within assignment now.one_each i now.left_in_table.0 rule is-rule) (λ m. run_is (set assignment i m) rest)
      where
        now : Underway table assignment (i ∷ rest)
        now = underway rule table moment

        go :
            (s : Step)
            → IsStep rule table assignment i s
            → ((m : ℕ) → Moment rule table (set assignment i m) rest → IsRun rule table (run rule table (set assignment i m) rest))
            → IsRun rule table (elim s [ to_core m ↦ run rule table (set assignment i m) rest | no_core ↦ stopped_at i ])
        go (to_core m) chosen on = on m (step moment chosen)
        go no_core none on = record { assignment = assignment; rest = rest; moment = moment; no_candidate = none }

    -- the certificate of such a run is the stated one
    pub certificate_of_is : (r : Run) → IsRun rule table r → IsCertificate rule table (certificate_of table.rows r)
    unfolding certificate_of
    certificate_of_is (placed assignment) moment = record { assignment = assignment; placed = moment; are_figures = all_figures_are assignment moment }
    certificate_of_is (stopped_at i) stopped = stopped

    -- the computed certificate is the stated one
    pub certificate_is : IsCertificate rule table (certificate rule table)
    unfolding certificate
    certificate_is = certificate_of_is (run rule table (replicate (length table.rows) 0) (taken table.rows)) (run_is (replicate (length table.rows) 0) (taken table.rows) start)

    -- every certificate of the table is the computed one
    pub certificate_computed : (x : Certificate) → IsCertificate rule table x → x ≡ certificate rule table
    certificate_computed x h = certificate_unique rule is-rule table x (certificate rule table) h certificate_is
