-- The rows of a text as the code judges them, one by one.
use Rattle.std.specs.Prelude.{ℕ, ◌+◌, true, false, ◌&&◌, leb, eqb, Ok, Err}
use Rattle.answers.specs.Answer.{Answer}
use Rattle.answers.specs.declared.Refusal.TheVariants.{CoresOutOfRange, RowsOutOfRange, RowBreaksLimits}
use Rattle.theory.specs.Row.{Row, within_limits}

-- the first fault of rows and one more behind n of them: theirs, or that of the one more
abbrev pub judged_row : Answer → ℕ → Row → Answer
judged_row (Ok none) n row = elim (leb 24 n) [ true ↦ Err RowsOutOfRange | false ↦ elim (within_limits row) [ true ↦ Ok tt | false ↦ Err (RowBreaksLimits (n + 1)) ] ]
judged_row (Err fault) n row = Err fault

-- the answer to n rows that have a fault or none, on a number of cores
abbrev pub judged_table : ℕ → ℕ → Answer → Answer
judged_table cores n fault = elim (leb 1 cores && leb cores 8) [ true ↦ elim (eqb n 0) [ true ↦ Err RowsOutOfRange | false ↦ fault ] | false ↦ Err CoresOutOfRange ]
