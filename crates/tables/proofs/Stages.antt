-- What the table service and the listing answer where no core takes a row.
use Prim.Native.Nat.{ℕ, ◌+◌, ◌*◌, ◌≤◌}
use native.Mathlib.Omega.{arith}
use mathlib.Core.List.{List}
use lib.ListN.{length}
use Rattle.std.specs.Prelude.{Ok, Err}
use Rattle.answers.specs.declared.Refusal.{Refusal}
use Rattle.answers.specs.Answer.{refused_with}
use Rattle.placement.specs.Choice.{allowance_fit}
use Rattle.records.specs.Reading.{read_table}
use Rattle.reading.specs.declared.table.Table.{Table}
use Rattle.reading.specs.Read.{held_table, IsRead}
use Rattle.rows.proofs.Fronts.{many_at_fronts}
use Rattle.certificates.specs.Held.{IsHeld}
use Rattle.listing.specs.Listing.{refusal}
use Rattle.service.specs.Table.{TableAnswered, Listed}

pub refusal_answered : {bytes report : List ℕ} (table : Table) {refused : Refusal} → IsRead (read_table bytes) (Ok table) → 4 + 23 * table.held.n ≤ length report → IsHeld (held_table table) (Err refused)
    → TableAnswered allowance_fit bytes report (refused_with refused) report
refusal_answered table read long (i, is, stop) =
    rw is (TableAnswered.no_core_takes_it (held_table table) i read (omega (arith, many_at_fronts table.held)) stop)

pub refusal_listed : {bytes : List ℕ} (table : Table) {refused : Refusal} → IsRead (read_table bytes) (Ok table) → IsHeld (held_table table) (Err refused)
    → Listed allowance_fit bytes (refusal (refused_with refused).number (refused_with refused).row)
refusal_listed table read (i, is, stop) = rw is (Listed.no_core_takes_it (held_table table) i read stop)
