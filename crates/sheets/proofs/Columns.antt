-- A set's rows are the rows that its three lists are.
use mathlib.Core.Path.{◌≡◌, refl, ap}
use mathlib.Core.List.{List, [], ◌∷◌}
use Rattle.theory.specs.Row.{Row}
use Rattle.theory.specs.Lists.{rows_of}
use Rattle.sheets.specs.Sheets.{executions, deadlines, periods}

pub rows_of_columns : (rows : List Row) → rows_of (executions rows) (deadlines rows) (periods rows) ≡ rows
unfolding rows_of
rows_of_columns [] = refl
rows_of_columns (row ∷ rows) = ap (λ (others : List Row). row ∷ others) (rows_of_columns rows)
