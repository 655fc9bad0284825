-- The bench program reads at most 317 bytes: what it prints for them is what document 01 wants printed for the whole input.
use mathlib.Core.Path.{sym, ◌∙◌}
use Prim.Native.Nat.{ℕ}
use mathlib.Core.List.{List}
use lib.ListN.{take}
use Rattle.placement.specs.Choice.{Rule}
use Rattle.records.proofs.Longest.{table_in_front}
use Rattle.service.specs.Table.{Listed}

-- the listing of the first 317 bytes is the listing of all
pub listed_from_front : {rule : Rule} {lines : List ℕ} (bytes : List ℕ) → Listed rule (take 317 bytes) lines → Listed rule bytes lines
listed_from_front bytes (Listed.not_a_table number row read) = Listed.not_a_table number row (sym (table_in_front bytes) ∙ read)
listed_from_front bytes (Listed.no_core_takes_it t i read stopped) = Listed.no_core_takes_it t i (sym (table_in_front bytes) ∙ read) stopped
listed_from_front bytes (Listed.accepted t all read certified) = Listed.accepted t all (sym (table_in_front bytes) ∙ read) certified
