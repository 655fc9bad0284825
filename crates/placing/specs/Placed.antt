-- A placement as the code leaves it: each row's core in one list, each core's rows beside it.
use Rattle.std.specs.Prelude.{ℕ, suc, List, [], Ok, Err}
use Rattle.answers.specs.Answer.{Answer}
use Rattle.answers.specs.declared.Refusal.TheVariants.{NoCoreTakes}
use Rattle.theory.specs.Lists.{rows_of}
use Rattle.placement.specs.Core.{Table}
use Rattle.placement.specs.Choice.{Rule}
use Rattle.placement.specs.Placement.{Moment, Stopped}
use Rattle.rows.specs.declared.Rows.{Rows}
use Rattle.cores.specs.Cores.{HoldsCores}

-- the table with these cores and rows
abbrev pub table_of : ℕ → List ℕ → List ℕ → List ℕ → Table
table_of cores cs ds ts = record { cores = cores; rows = rows_of cs ds ts }

abbrev pub table_in : ℕ → Rows → Table
table_in cores rows = table_of cores rows.c.now rows.d.now rows.t.now

-- every row is placed, and the cores hold that; or there is a row that no core takes
pub data IsPlaced (rule : Rule) (table : Table) (assignment : List ℕ) (rows : List (List ℕ)) (counts : List ℕ) : Answer → Type 0 where
  placed : Moment rule table assignment [] → HoldsCores assignment rows counts → IsPlaced rule table assignment rows counts (Ok tt)
  stopped : (i : ℕ) → Stopped rule table i → IsPlaced rule table assignment rows counts (Err (NoCoreTakes (suc i)))
