-- The places held for placed rows are what `write_at` asks for, and what it leaves, core by core, are the rows' figures.
use mathlib.Core.Path.{◌≡◌, sym, ap, ◌∙◌, subst}
use Prim.Native.Nat.{ℕ, suc, ◌≤◌, ◌<◌}
use mathlib.Core.List.{List, map}
use native.Mathlib.Omega.{arith}
use lib.ListN.{length}
use Rattle.theory.specs.Gather.{All}
use Rattle.theory.specs.Row.{Row, row_at}
use Rattle.theory.specs.Response.{AllMeet}
use Rattle.placement.specs.Core.{core_rows}
use Rattle.placement.proofs.PlacesOn.{core_rows_at_places}
use Rattle.cores.specs.Cores.{held_places}
use Rattle.cores.proofs.Held.{held_count, held_at_most, held_in_table}
use Rattle.figures.specs.Figured.{CoreFigured}
use Rattle.figures.specs.Placed.{PlacedRows}
use Rattle.figures.proofs.Written.{FiguredUpTo, figured_up_to}

module _ {rows : List Row} {held : List (List ℕ)} {counts : List ℕ} (placed : PlacedRows rows held counts) where
  -- before the first core there is no row
  pub none_yet : (responses allowances : List ℕ) → FiguredUpTo rows placed.assignment responses allowances 0
  none_yet responses allowances i in_table up_to_lem = absurd (omega (arith, (placed.on_some_core i in_table).0))

  module _ (m : ℕ) (on_table : m < 8) where
    -- the rows at the places held for core m + 1 are the core's
    placed_rows : map (row_at rows) (held_places held counts m) ≡ core_rows rows placed.assignment (suc m)
    placed_rows = ap (map (row_at rows)) (placed.holds.places m on_table) ∙ sym (core_rows_at_places rows placed.assignment (suc m) placed.one_each)

    -- they all meet
    pub placed_meet : AllMeet (map (row_at rows) (held_places held counts m))
    placed_meet = subst AllMeet (sym placed_rows) (placed.cores_meet (suc m) (omega arith))

    -- they are no more than the table's
    pub placed_no_more : length (held_places held counts m) ≤ length rows
    placed_no_more = omega (arith, held_count placed.holds m on_table, held_at_most placed.holds m on_table, placed.one_each)

    -- the places are the table's
    pub placed_in_table : All (λ h. h < length rows) (held_places held counts m)
    placed_in_table = subst (λ (n : ℕ). All (λ h. h < n) (held_places held counts m)) placed.one_each (held_in_table placed.holds m on_table)

    -- with their figures written, those of the rows on cores 1 to m + 1 stand
    pub placed_figured :
        (responses allowances responses' allowances' : List ℕ)
        → length responses ≡ length rows
        → length allowances ≡ length rows
        → FiguredUpTo rows placed.assignment responses allowances m
        → CoreFigured (map (row_at rows) (held_places held counts m)) (held_places held counts m) responses allowances responses' allowances'
        → FiguredUpTo rows placed.assignment responses' allowances' (suc m)
    placed_figured responses allowances responses' allowances' r a before figured =
        figured_up_to rows placed.assignment placed.one_each m responses allowances responses' allowances' r a before
        (rw (sym placed_rows, sym (placed.holds.places m on_table)) figured)
