-- What a climb of a limited number of rounds must come to, and what a search by such climbs for the largest raise must (document 01, "Allowance").
use Rattle.std.specs.Prelude.{ℕ, ◌+◌, ◌≤◌, ◌<◌, Option, Result, Ok, Err}
use Rattle.theory.specs.Climb.{RoomAt, Start, Climbed}
use Rattle.climbs.specs.Climb.{outcome_of}
use Rattle.demands.specs.declared.ranked.RankedRow.{RankedRow}
use Rattle.demands.specs.Loads.{raised_load}
use Rattle.raises.specs.declared.Standing.{Standing}
use Rattle.raises.specs.declared.LeftOff.{LeftOff}

-- the load of a row with each raise of a period
abbrev pub load_with : RankedRow → ℕ → ℕ → ℕ → ℕ
load_with row period = raised_load row.own row.c.now row.t.now period

-- there is room no later than a limit
pub record RoomBy (next : ℕ → ℕ) (limit : ℕ) : Type 0 where
  pub time : ℕ
  pub room : RoomAt next time
  pub by_limit : time ≤ limit

-- what a climb from a start of at most so many rounds must come to: its outcome, or a value from which it may go on, each round having taken it up
abbrev pub ClimbedOn : (ℕ → ℕ) → ℕ → ℕ → ℕ → Result (Option ℕ) Standing → Type 0
ClimbedOn next limit start rounds (Ok outcome) = Climbed next limit (outcome_of outcome)
ClimbedOn next limit start rounds (Err standing) = Start next standing.at × (start + rounds ≤ standing.at) × (standing.at ≤ limit)

-- what it must come to where it may be left off: that happens only where the rounds are fewer than the limit
abbrev pub ClimbedIn : (ℕ → ℕ) → ℕ → ℕ → Result (Option ℕ) LeftOff → Type 0
ClimbedIn next limit rounds (Ok outcome) = Climbed next limit (outcome_of outcome)
ClimbedIn next limit rounds (Err left_off) = rounds < limit

-- r is the largest raise, up to `most`, with which there is room by the limit
pub record LargestRaise (load : ℕ → ℕ → ℕ) (limit most r : ℕ) : Type 0 where
  pub up_to : r ≤ most
  pub meets : RoomBy (load r) limit
  pub largest : (b : ℕ) → b ≤ most → RoomBy (load b) limit → b ≤ r

-- what a search by climbs of at most so many rounds must come to
abbrev pub IsRaise : (ℕ → ℕ → ℕ) → ℕ → ℕ → ℕ → Result ℕ LeftOff → Type 0
IsRaise load limit most rounds (Ok r) = LargestRaise load limit most r
IsRaise load limit most rounds (Err left_off) = rounds < limit
