-- The rows and figures of document 01 that the code's values stand for.
use Rattle.std.specs.Prelude.{List}
use Rattle.theory.specs.Row.{Row}
use Rattle.theory.specs.Lists.{rows_of}
use Rattle.placement.specs.Figures.{Figures, figures_from}
use Rattle.rows.specs.Held.{held_rows}
use Rattle.rows.specs.declared.Row.{Row as HeldRow}
use Rattle.rows.specs.declared.RowLists.{RowLists}
use Rattle.rows.specs.declared.Rows.{Rows}
use Rattle.rows.specs.declared.held.HeldRows.{HeldRows}
use Rattle.rows.specs.declared.Figures.{Figures as HeldFigures}
use Rattle.rows.specs.declared.FigureLists.{FigureLists}

-- the row that a value is
abbrev pub row_of : HeldRow → Row
row_of row = record { C = row.c; D = row.d; T = row.t }

-- the rows that lists are, within the limits or not
abbrev pub rows_listed : RowLists → List Row
rows_listed lists = rows_of lists.c.now lists.d.now lists.t.now

-- the rows within the limits that lists are
abbrev pub rows_in : Rows → List Row
rows_in rows = rows_of rows.c.now rows.d.now rows.t.now

-- the rows at the fronts of the arrays that hold them
abbrev pub rows_at_fronts : HeldRows → List Row
rows_at_fronts held = held_rows held.n held.c held.d held.t

-- the figures that a value is
abbrev pub figures_of : HeldFigures → Figures
figures_of figures = record { core = figures.core; response = figures.response; allowance = figures.allowance }

-- the figures that lists are
abbrev pub figures_in : FigureLists → List Figures
figures_in lists = figures_from lists.core.now lists.response.now lists.allowance.now
