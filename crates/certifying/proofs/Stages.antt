-- The stages of a service on a table, from the numbers that its calls' answers have.
use mathlib.Core.Path.{◌≡◌, refl, sym, ◌∙◌}
use Prim.Native.Nat.{ℕ}
use native.Mathlib.Omega.{arith}
use Rattle.std.specs.Prelude.{Result, Ok, Err}
use Rattle.answers.specs.declared.Refusal.{Refusal}
use Rattle.answers.specs.Answer.{number_of}
use Rattle.answers.proofs.Refused.{number_not_0}
use Rattle.placement.specs.Core.{Table}
use Rattle.placement.specs.Choice.{allowance_fit}
use Rattle.placement.specs.Figures.{Certified}
use Rattle.records.specs.Reading.{Reading, table, TableWithin}
use Rattle.reading.specs.declared.table.Table.{Table as HeldTable}
use Rattle.reading.specs.Read.{held_table, IsRead}
use Rattle.certificates.specs.declared.certificate.Certificate.{Certificate}
use Rattle.certificates.specs.Held.{held_figures, IsHeld}
use Rattle.rows.proofs.Fronts.{held_rows_many}

-- where it is 0, what was read is a table that keeps the rules
pub read_by_number : {reading : Reading} (read : Result HeldTable Refusal) {number : ℕ} → IsRead reading read → number ≡ number_of read → number ≡ 0
    → (held : HeldTable) × (read ≡ Ok held) × (reading ≡ table (held_table held)) × TableWithin (held_table held)
read_by_number (Ok of_rows) is_read given none =
    let held = of_rows.held in
    let many = held_rows_many held.c held.d held.t held.n held.held in (
      of_rows,
      refl,
      is_read,
      record {
        some_core = of_rows.some_core;
        no_9th_core = of_rows.no_9th_core;
        some_row = omega (arith, many, held.some_row);
        no_25th_row = omega (arith, many, held.held.no_25th_row);
        rows_within = held.within;
      },
    )
read_by_number (Err refusal) is_read given none = absurd (number_not_0 refusal (sym given ∙ none))

-- and what was given is its certificate
pub certified_by_number : {t : Table} (given : Result Certificate Refusal) {number : ℕ} → IsHeld t given → number ≡ number_of given → number ≡ 0
    → (certificate : Certificate) × (given ≡ Ok certificate) × Certified allowance_fit t (held_figures certificate)
certified_by_number (Ok certificate) is_held its none = (certificate, refl, is_held)
certified_by_number (Err refusal) is_held its none = absurd (number_not_0 refusal (sym its ∙ none))
