-- The figures of a table within the limits are small: each fits its place in a record, and has ten digits at most.
use Prim.Native.Nat.{ℕ, ◌<◌}
use mathlib.Core.List.{List}
use native.Mathlib.Omega.{arith}
use lib.ListN.{length}
use Rattle.theory.specs.Row.{AllWithin}
use Rattle.placement.specs.Choice.{Rule}
use Rattle.placement.specs.Core.{Table}
use Rattle.placement.specs.Figures.{Figures, figures_at, Certified}
use Rattle.placement.proofs.Certified.{certified_in_time}
use Rattle.records.specs.Reading.{TableWithin}
use Rattle.records.proofs.ReportFigures.{AllFitRecord}
use Rattle.listing.proofs.Longest.{TenDigits}
use Rattle.certificates.proofs.Promises.{certified_by_deadline}

-- below 2^32
pub certified_fit : (rule : Rule) (t : Table) (all : List Figures) → AllWithin t.rows → Certified rule t all → AllFitRecord all
certified_fit rule t all within c i inside =
    let in_table : i < length t.rows = omega (arith, inside, c.are_figures.one_each) in
    let by_deadline = certified_by_deadline rule t all within c i in_table in
    let limits = within i in_table in
    record { response_below = omega (arith, by_deadline, limits.by_period, limits.by_million); allowance_below = omega (arith, by_deadline, limits.by_period, limits.by_million) }

-- ten digits
pub certified_digits : (rule : Rule) (t : Table) (all : List Figures) → TableWithin t → Certified rule t all → (i : ℕ) → i < length all → TenDigits (figures_at all i)
certified_digits rule t all within c i inside =
    let in_table : i < length t.rows = omega (arith, c.are_figures.one_each) in
    let fit = certified_fit rule t all within.rows_within c i inside in
    record {
      core_below = omega (arith, (certified_in_time rule t all c i in_table).on_table, (c.are_figures.right i in_table).its_core, within.no_9th_core);
      response_below = omega (arith, fit.response_below);
      allowance_below = omega (arith, fit.allowance_below);
    }
