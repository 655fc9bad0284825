-- What short climbs must tell of a row with the rows above it.
use Rattle.std.specs.Prelude.{ℕ, ◌≤◌, ◌<◌, Option, Some, None, Result, Ok, Err}
use Rattle.theory.specs.Climb.{RoomAt, LeastRoom}
use Rattle.demands.specs.Loads.{load_in}
use Rattle.demands.specs.declared.ranked.RankedRow.{RankedRow}
use Rattle.demands.specs.declared.ranked.Raise.{Raise}
use Rattle.raises.specs.Raise.{load_with, LargestRaise}
use Rattle.raises.specs.declared.LeftOff.{LeftOff}
use Rattle.fits.specs.declared.Judged.{Judged}

-- its response time and the largest raise, up to the most, of a row of a period, that it misses, or nothing
abbrev pub IsJudged : RankedRow → Raise → Result (Option Judged) LeftOff → Type 0
IsJudged row most (Ok (Some judged)) =
    (LeastRoom (load_in row) judged.response × (judged.response ≤ row.limit)) × LargestRaise (load_with row most.period) row.limit most.more judged.raise
IsJudged row most (Ok None) = (S : ℕ) → RoomAt (load_in row) S → row.limit < S
IsJudged row most (Err left_off) = Unit {0}
