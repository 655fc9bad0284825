-- The quotients of a row at a point, one for each row above it and one for itself, and a list of numbers lifted to the greatest of them.
use Rattle.std.specs.Prelude.{◌≡◌, ℕ, ◌≤◌, ◌<◌, true, false, ltb, ℤ, pos, negsuc, ◌-ℤ◌, ◌≤ℤ◌, length, get_or}
use mathlib.Core.List.{List, Memᴰ}
use Rattle.theory.specs.Response.{ceil}
use Rattle.theory.specs.Moved.{LiftedTo}
use Rattle.theory.specs.Points.{floor_div, walk}
use Rattle.theory.specs.Lists.{rows_of}
use Rattle.demands.specs.Levels.{load_of}
use Rattle.demands.specs.declared.ranked.RankedRow.{RankedRow}

-- the divisor of entry j at p: the jobs of the row above with that place, and 1 for the row itself, whose entry comes last
unfoldable pub divisor_of : List ℕ → ℕ → ℕ → ℕ
divisor_of ts j p = elim (ltb j (length ts)) [ true ↦ ceil p (get_or ts j 0) | false ↦ 1 ]

-- the quotient of entry j at p
unfoldable pub quotient_of : ℕ → List ℕ → List ℕ → ℕ → ℕ → ℤ
quotient_of own cs ts j p = floor_div (pos p -ℤ pos (load_of own cs ts p)) (divisor_of ts j p)

-- the jobs of each row up to a time, at the front of a list
abbrev pub HoldsJobs : List ℕ → ℕ → List ℕ → Type 0
HoldsJobs ts time jobs = (j : ℕ) → j < length ts → get_or jobs j 0 ≡ ceil time (get_or ts j 0)

-- minus 50 million: every quotient up to a million ticks is above it
abbrev pub least : ℤ
least = negsuc 49_999_999

-- what a best quotient can be, before the first one too: 64 bits hold its product with a number of jobs
pub record InRange (z : ℤ) : Type 0 where
  pub from_least : least ≤ℤ z
  pub to_million : z ≤ℤ pos 1_000_000

-- every entry, the row's own too, is in that range
abbrev pub AllInRange : List ℕ → List ℤ → Type 0
AllInRange cs best = (j : ℕ) → j ≤ length cs → InRange (get_or best j (pos 0))

-- the points of the walk at a level from a time that are above a last one
abbrev pub NewPoints : List ℕ → List ℕ → ℕ → ℕ → ℕ → ℕ → Type 0
NewPoints cs ts level time last p = Memᴰ p (walk (rows_of cs ts ts) level time) × (last < p)

abbrev pub NewPointsIn : RankedRow → ℕ → ℕ → ℕ → ℕ → Type 0
NewPointsIn row = NewPoints row.c.now row.t.now

-- every entry, the row's own too, lifted to the greatest of its quotients at the visited points
abbrev pub AllLifted : ℕ → List ℕ → List ℕ → (ℕ → Type 0) → List ℤ → List ℤ → Type 0
AllLifted own cs ts Visited before after =
    (j : ℕ) → j ≤ length cs → LiftedTo (quotient_of own cs ts j) Visited (get_or before j (pos 0)) (get_or after j (pos 0))

abbrev pub AllLiftedIn : RankedRow → (ℕ → Type 0) → List ℤ → List ℤ → Type 0
AllLiftedIn row = AllLifted row.own row.c.now row.t.now
