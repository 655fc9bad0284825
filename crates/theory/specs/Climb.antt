-- What a climb may start from, and what it must come to: document 01, "The climb ends at the first value that repeats or passes D_k".
use Rattle.std.specs.Prelude.{◌≡◌, ℕ, ◌≤◌, ◌<◌}
use Rattle.theory.specs.Response.{Outcome, responds, misses}

-- at S the value is no more than S: there is room
pub record RoomAt (next : ℕ → ℕ) (S : ℕ) : Type 0 where
  pub from_one : 1 ≤ S
  pub enough : next S ≤ S

-- R is the least time with room, and there the value repeats
pub record LeastRoom (next : ℕ → ℕ) (R : ℕ) : Type 0 where
  pub room : RoomAt next R
  pub repeats : R ≡ next R
  pub least : (S : ℕ) → RoomAt next S → R ≤ S

-- what a climb up to a limit must come to
abbrev pub Climbed : (ℕ → ℕ) → ℕ → Outcome → Type 0
Climbed next limit (responds R) = LeastRoom next R × (R ≤ limit)
Climbed next limit misses = (S : ℕ) → RoomAt next S → limit < S

-- a value from which the climb may start
pub record Start (next : ℕ → ℕ) (t : ℕ) : Type 0 where
  pub from_one : 1 ≤ t
  pub rises : t ≤ next t
  pub below_room : (S : ℕ) → RoomAt next S → t ≤ S
