-- The response time of every row, or the highest-ranked row that misses.
use Rattle.std.specs.Prelude.{◌≡◌, ℕ, ◌<◌, length, Result, Ok, Err}
use Rattle.theory.specs.Response.{FirstMiss}
use Rattle.rows.specs.Values.{rows_in}
use Rattle.climbs.specs.declared.ranked_set.RankedSet.{RankedSet}
use Rattle.responses.specs.declared.timed.Timed.{Timed}
use Rattle.responses.specs.declared.timed.Miss.{Miss}
use Rattle.responses.specs.InTime.{RespondsInTime}

-- what a verdict says of a set
abbrev pub IsVerdict : RankedSet → Result Timed Miss → Type 0
IsVerdict set (Ok timed) = (timed.set.now ≡ set) × ((k : ℕ) → k < length (rows_in set.rows) → RespondsInTime (rows_in set.rows) timed.response k)
IsVerdict set (Err miss) = FirstMiss (rows_in set.rows) miss.row
