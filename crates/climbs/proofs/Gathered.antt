-- The rows at some places of a set, as lists of C, D and T: rows within the limits, and the set's rows there.
use mathlib.Core.Path.{◌≡◌, sym, ◌∙◌, subst}
use Prim.Native.Nat.{ℕ, zero, suc, ◌≤◌, ◌<◌}
use mathlib.Core.List.{List, [], ◌∷◌, map}
use native.Mathlib.Omega.{arith}
use lib.ListN.{length, get_or, take, length-map}
use Rattle.theory.specs.Row.{Row, row_at, AllWithin}
use Rattle.theory.specs.Gather.{All}
use Rattle.theory.specs.Lists.{Shaped, rows_of}
use Rattle.theory.proofs.Each.{all_map}
use Rattle.theory.proofs.RowsOf.{rows_of_length, rows_of_places}
use Rattle.rows.specs.Values.{rows_in}
use Rattle.rows.specs.declared.Rows.{Rows}
use Rattle.rows.specs.declared.held.HeldRows.{HeldRows}
use Rattle.climbs.specs.Ranking.{numbers_at}
use Rattle.climbs.specs.Placed.{AreRowsAt}

-- rows at places keep the limits where all rows do
pub within_at_places : (rows : List Row) (places : List ℕ) → AllWithin rows → All (λ h. h < length rows) places → AllWithin (map (row_at rows) places)
within_at_places rows [] within inside k h = absurd (omega arith)
within_at_places rows (place ∷ places) within inside zero h = within place inside.0
within_at_places rows (place ∷ places) within inside (suc k) h = within_at_places rows places within inside.1 k (omega arith)

-- there is a number for each place
pub length_at : (places numbers : List ℕ) → length (numbers_at places numbers) ≡ length places
length_at places numbers = length-map places (λ h. get_or numbers h 0)

module _ (cs ds ts places : List ℕ) where
  pub shaped_at : 1 ≤ length places → length places ≤ 24 → Shaped (numbers_at places cs) (numbers_at places ds) (numbers_at places ts)
  shaped_at some few = record {
    some_row = omega (arith, length_at places cs);
    no_25th = omega (arith, length_at places cs);
    as_many_deadlines = length_at places ds ∙ sym (length_at places cs);
    as_many_periods = length_at places ts ∙ sym (length_at places cs);
  }

  module _ (shaped : Shaped cs ds ts) where
    -- they are the rows at the places
    pub rows_at_places : rows_of (numbers_at places cs) (numbers_at places ds) (numbers_at places ts) ≡ map (row_at (rows_of cs ds ts)) places
    rows_at_places = rows_of_places cs ds ts shaped.as_many_deadlines shaped.as_many_periods places

    pub within_at : AllWithin (rows_of cs ds ts) → All (λ h. h < length cs) places → AllWithin (rows_of (numbers_at places cs) (numbers_at places ds) (numbers_at places ts))
    within_at within inside =
        subst AllWithin (sym rows_at_places)
        (within_at_places (rows_of cs ds ts) places within
        (all_map places (λ h l. omega (arith, l, rows_of_length cs ds ts shaped.as_many_deadlines shaped.as_many_periods)) inside))

-- the rows that are held for places are the set's rows there, as many as places
module _
    (rows : Rows)
    {places : List ℕ}
    {held : HeldRows}
    (at_places : AreRowsAt rows places held)
    (lists : Rows)
    (executions : lists.c.now ≡ take held.n held.c) where
  pub rows_held : lists.d.now ≡ take held.n held.d → lists.t.now ≡ take held.n held.t → rows_in lists ≡ map (row_at (rows_in rows)) places
  rows_held deadlines periods =
      rw (executions, deadlines, periods, at_places.executions, at_places.deadlines, at_places.periods)
      (rows_at_places rows.c.now rows.d.now rows.t.now places rows.shaped)

  pub many_held : length lists.c.now ≡ length places
  many_held = rw (executions, at_places.executions) (length_at places rows.c.now)
