-- Where the services on lists stand after the checks: refused for a row that misses, or with every row's response time; and the figures of an explanation.
use Rattle.std.specs.Prelude.{◌≡◌, ℕ, suc, Result, Ok, Err}
use Rattle.answers.specs.declared.Refusal.{Refusal}
use Rattle.answers.specs.declared.Refusal.TheVariants.{RowMisses}
use Rattle.theory.specs.Response.{FirstMiss}
use Rattle.rows.specs.declared.Rows.{Rows}
use Rattle.rows.specs.Values.{rows_in}
use Rattle.responses.specs.declared.timed.Timed.{Timed}
use Rattle.sets.specs.declared.Explanation.{Explanation}

-- after the response times of rows that passed the checks
pub data IsTimed (rows : Rows) : Result Timed Refusal → Type 0 where
  row_misses : (k : ℕ) → FirstMiss (rows_in rows) k → IsTimed rows (Err (RowMisses (suc k)))
  rows_in_time : (timed : Timed) → timed.set.now.rows ≡ rows → IsTimed rows (Ok timed)

-- the number of the limiting row, and the point; with a refusal both are 0
abbrev pub limiting_of : Result Explanation Refusal → ℕ
limiting_of (Ok explanation) = explanation.limiting
limiting_of (Err refusal) = 0

abbrev pub point_of : Result Explanation Refusal → ℕ
point_of (Ok explanation) = explanation.point
point_of (Err refusal) = 0
