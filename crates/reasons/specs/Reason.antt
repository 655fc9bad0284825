-- The row that limits another and the point at which it does (document 02, request 1), by points, on lists of C, D and T by rank.
use Rattle.std.specs.Prelude.{◌≡◌, ℕ, suc, ◌+◌, ◌≤◌, ◌<◌, length, get_or, take, Option, Some, None}
use mathlib.Core.List.{List, Memᴰ}
use Rattle.theory.specs.Points.{walk}
use Rattle.theory.specs.Lists.{rows_of}
use Rattle.demands.specs.Levels.{Small}
use Rattle.demands.specs.Loads.{raised_load}
use Rattle.trials.specs.Trial.{counted_by}
use Rattle.reasons.specs.declared.Reach.{Reach}

-- the points of a walk over rows with these periods, from a limit
abbrev pub walk_from : List ℕ → ℕ → List ℕ
walk_from ts limit = walk (rows_of ts ts ts) (length ts) limit

-- p is the least point above a last one
pub record IsNextPoint (ts : List ℕ) (limit last p : ℕ) : Type 0 where
  pub among_points : Memᴰ p (walk_from ts limit)
  pub above_last : last < p
  pub least : (q : ℕ) → Memᴰ q (walk_from ts limit) → last < q → p ≤ q

-- a is the largest raise for which point p has room, and at least another
pub record LargestAt (load : ℕ → ℕ → ℕ) (p least a : ℕ) : Type 0 where
  pub at_least : least ≤ a
  pub by_point : a ≤ p
  pub room : load a p ≤ p
  pub no_more : load (suc a) p ≤ p → ⊥

-- the largest raise for which point p has room, or that it has none for the least one
abbrev pub IsLargestAt : (ℕ → ℕ → ℕ) → ℕ → ℕ → Option ℕ → Type 0
IsLargestAt load p least (Some a) = LargestAt load p least a
IsLargestAt load p least None = load least p ≤ p → ⊥

-- p is the least of some points at which a load fits
pub record LeastWithRoom (load : ℕ → ℕ) (points : List ℕ) (p : ℕ) : Type 0 where
  pub among_points : Memᴰ p points
  pub room : load p ≤ p
  pub least : (q : ℕ) → Memᴰ q points → load q ≤ q → p ≤ q

-- a point has room for a raise; and unless that is known to be enough, none has room for more, and the point is the least with room for it
pub record ReachedAt (load : ℕ → ℕ → ℕ) (points : List ℕ) (enough raise point : ℕ) : Type 0 where
  pub among_points : Memᴰ point points
  pub room : load raise point ≤ point
  pub no_more : raise < enough → (q : ℕ) → Memᴰ q points → load (suc raise) q ≤ q → ⊥
  pub least : raise < enough → (q : ℕ) → Memᴰ q points → load raise q ≤ q → point ≤ q

-- how far points reach: to a raise at a point, or none has room for a raise of 0
abbrev pub Reached : (ℕ → ℕ → ℕ) → List ℕ → ℕ → Option Reach → Type 0
Reached load points enough (Some reach) = ReachedAt load points enough reach.raise reach.point
Reached load points enough None = (q : ℕ) → Memᴰ q points → load 0 q ≤ q → ⊥

-- the load of the row at place j with a more in the row at place p
abbrev pub load_with_raised : List ℕ → List ℕ → ℕ → ℕ → ℕ → ℕ → ℕ
load_with_raised cs ts p j = raised_load (get_or cs j 0) (take j cs) (take j ts) (counted_by ts p j)

-- the points of the row at place j
abbrev pub points_at : List ℕ → List ℕ → ℕ → List ℕ
points_at ds ts j = walk_from (take j ts) (get_or ds j 0)

-- a point of the row at place j has room for a more in the row at place p
pub record PointWith (cs ds ts : List ℕ) (p j a : ℕ) : Type 0 where
  pub point : ℕ
  pub among_points : Memᴰ point (points_at ds ts j)
  pub room : load_with_raised cs ts p j a point ≤ point

-- rows by rank, within the limits, each with a point of non-negative slack
pub record PointsByRank (cs ds ts : List ℕ) : Type 0 where
  pub small : Small cs ts
  pub as_many_deadlines : length ds ≡ length cs
  pub runs : (j : ℕ) → j < length cs → 1 ≤ get_or cs j 0
  pub by_deadline : (j : ℕ) → j < length cs → get_or cs j 0 ≤ get_or ds j 0
  pub by_period : (j : ℕ) → j < length cs → get_or ds j 0 ≤ get_or ts j 0
  pub have_points : (p j : ℕ) → j < length cs → PointWith cs ds ts p j 0

-- no raise above `most` is in question for the row at place p: it is within the row's own distance to its deadline, and not every row from p on has a point with room for more
pub record IsMost (cs ds ts : List ℕ) (p most : ℕ) : Type 0 where
  pub own_distance : get_or cs p 0 + most ≤ get_or ds p 0
  pub no_larger : ((q : ℕ) → p ≤ q → q < length cs → PointWith cs ds ts p q (suc most)) → ⊥

-- the row at place `row` limits the one at place p at a point: it and the rows behind p have points with room for the allowance, those before it for one more, it for no more, and
-- the point is its least with room for the allowance
pub record LimitedAt (cs ds ts : List ℕ) (p row point : ℕ) : Type 0 where
  pub allowance : ℕ
  pub from : p ≤ row
  pub inside : row < length cs
  pub each_has_room : (q : ℕ) → p ≤ q → q < length cs → PointWith cs ds ts p q allowance
  pub above_have_more : (q : ℕ) → p ≤ q → q < row → PointWith cs ds ts p q (suc allowance)
  pub no_more : PointWith cs ds ts p row (suc allowance) → ⊥
  pub least_point : LeastWithRoom (load_with_raised cs ts p row allowance) (points_at ds ts row) point
