-- The rows that C, D and T gathered at places are.
use mathlib.Core.Path.{◌≡◌, sym, ap, ◌∙◌}
use Prim.Native.Nat.{ℕ, suc, ◌<◌}
use mathlib.Core.List.{List, map}
use lib.Dec.{ltb}
use lib.ListN.{length, get_or, set, length-set}
use Rattle.theory.specs.Row.{Row}
use Rattle.theory.specs.Gather.{insert}
use Rattle.theory.specs.Lists.{rows_of}
use Rattle.theory.proofs.RowsOf.{rows_of_length, rows_of_places}
use Rattle.placement.specs.Core.{Table, core_rows, core_of, places_on}
use Rattle.placement.specs.Choice.{joined}
use Rattle.placement.proofs.PlacesOn.{core_rows_at_places}
use Rattle.cores.specs.Cores.{held_places, HoldsCores}
use Rattle.cores.proofs.Held.{held_joined}

-- the rows whose C, D and T are the numbers at places
abbrev pub rows_at : List ℕ → List ℕ → List ℕ → List ℕ → List Row
rows_at cs ds ts places = rows_of (map (λ h. get_or cs h 0) places) (map (λ h. get_or ds h 0) places) (map (λ h. get_or ts h 0) places)

module _
    (cs ds ts : List ℕ)
    (as_many_deadlines : length ds ≡ length cs)
    (as_many_periods : length ts ≡ length cs)
    (assignment : List ℕ)
    (one_each : length assignment ≡ length cs) where
  -- at a core's places they are the core's rows
  pub gathered_core : (m : ℕ) → rows_at cs ds ts (places_on assignment m) ≡ core_rows (rows_of cs ds ts) assignment m
  gathered_core m =
      rows_of_places cs ds ts as_many_deadlines as_many_periods (places_on assignment m)
      ∙ sym (core_rows_at_places (rows_of cs ds ts) assignment m (one_each ∙ sym (rows_of_length cs ds ts as_many_deadlines as_many_periods)))

-- at the places that are held for a core, and place i among them, they are the core's rows with row i
pub gathered_joined :
    (cs ds ts : List ℕ)
    → length ds ≡ length cs
    → length ts ≡ length cs
    → (table : Table)
    → table.rows ≡ rows_of cs ds ts
    → {assignment : List ℕ} {rows : List (List ℕ)} {counts : List ℕ}
    → HoldsCores assignment rows counts
    → (m : ℕ)
    → m < 8
    → (i : ℕ)
    → i < length assignment
    → core_of assignment i ≡ 0
    → length assignment ≡ length cs
    → rows_at cs ds ts (insert ltb i (held_places rows counts m)) ≡ joined table assignment i (suc m)
gathered_joined cs ds ts as_many_deadlines as_many_periods table same {assignment} {rows} {counts} holds m on_table i in_table on_none one_each =
    ap (rows_at cs ds ts) (sym (held_joined holds m on_table i in_table on_none))
    ∙ gathered_core cs ds ts as_many_deadlines as_many_periods (set assignment i (suc m)) (length-set assignment i (suc m) ∙ one_each) (suc m)
    ∙ ap (λ rs. core_rows rs (set assignment i (suc m)) (suc m)) (sym same)
