-- Rows that stand by rank on lists of C, D and T: what it takes that they all respond in time, and the allowance of one of them (document 01, "Allowance").
use Rattle.std.specs.Prelude.{◌≡◌, ℕ, ◌≤◌, ◌<◌, true, false, List, eqb, length, get_or, take, Result, Ok, Err}
use Rattle.theory.specs.Climb.{LeastRoom}
use Rattle.demands.specs.Levels.{load_of, Small}
use Rattle.demands.specs.Loads.{raised_load}
use Rattle.raises.specs.Raise.{RoomBy}
use Rattle.raises.specs.declared.LeftOff.{LeftOff}

-- rows by rank, within the limits, each with its response time, which is at most its deadline
pub record InTimeByRank (cs ds ts responses : List ℕ) : Type 0 where
  pub small : Small cs ts
  pub as_many_deadlines : length ds ≡ length cs
  pub as_many_responses : length responses ≡ length cs
  pub by_period : (j : ℕ) → j < length cs → get_or ds j 0 ≤ get_or ts j 0
  pub responds : (j : ℕ) → j < length cs → LeastRoom (load_of (get_or cs j 0) (take j cs) (take j ts)) (get_or responses j 0)
  pub by_deadline : (j : ℕ) → j < length cs → get_or responses j 0 ≤ get_or ds j 0

-- the period of the jobs for which the row at place j counts the one at place p; itself it counts once, as if for a period that no deadline passes
unfoldable pub counted_by : List ℕ → ℕ → ℕ → ℕ
counted_by ts p j = elim (eqb j p) [ true ↦ 1_000_000 | false ↦ get_or ts p 0 ]

-- with a more in the row at place p, the row at place j has room by its deadline
abbrev pub RoomWith : List ℕ → List ℕ → List ℕ → ℕ → ℕ → ℕ → Type 0
RoomWith cs ds ts p a j = RoomBy (raised_load (get_or cs j 0) (take j cs) (take j ts) (counted_by ts p j) a) (get_or ds j 0)

-- so have all rows from place j on
abbrev pub RoomFrom : List ℕ → List ℕ → List ℕ → ℕ → ℕ → ℕ → Type 0
RoomFrom cs ds ts p a j = (q : ℕ) → j ≤ q → q < length cs → RoomWith cs ds ts p a q

-- a is the allowance of the row at place p: the largest with which it and all rows behind it have room
pub record AllowanceAt (cs ds ts : List ℕ) (p a : ℕ) : Type 0 where
  pub all_have_room : RoomFrom cs ds ts p a p
  pub largest : (b : ℕ) → RoomFrom cs ds ts p b p → b ≤ a

-- what a search for it by climbs of at most so many rounds must come to
abbrev pub IsAllowanceAt : List ℕ → List ℕ → List ℕ → ℕ → ℕ → Result ℕ LeftOff → Type 0
IsAllowanceAt cs ds ts p rounds (Ok a) = AllowanceAt cs ds ts p a
IsAllowanceAt cs ds ts p rounds (Err left_off) = rounds < 1_000_000
