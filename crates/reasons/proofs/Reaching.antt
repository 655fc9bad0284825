-- How far the points of a walk reach, while they come up in ascending order: what holds after those up to a last one, how it begins and ends.
use Rattle.std.proofs.Common.{Option, Some, None}
use mathlib.Core.Path.{◌≡◌, refl}
use Prim.Native.Nat.{ℕ, suc, ◌≤◌}
use mathlib.Core.List.{List, Memᴰ}
use native.Mathlib.Omega.{arith}
use lib.ListN.{length}
use Rattle.theory.specs.Lists.{rows_of}
use Rattle.theory.proofs.Walk.{walk_start, walk_within}
use Rattle.reasons.specs.declared.Reach.{Reach}
use Rattle.reasons.specs.Reason.{walk_from, LargestAt, LeastWithRoom, ReachedAt, Reached}

-- the least of the points with room for the largest raise that one has room for, where one has room for any; `more` is the least raise that none has room for
abbrev pub SoFar : (ℕ → ℕ → ℕ) → List ℕ → ℕ → Option Reach → Type 0
SoFar load points more (Some reach) = (more ≡ suc reach.raise) × LeastWithRoom (load reach.raise) points reach.point
SoFar load points more None = more ≡ 0

-- after the points up to the last one
pub record ReachedBy (load : ℕ → ℕ → ℕ) (points : List ℕ) (last more : ℕ) (reach : Option Reach) : Type 0 where
  pub no_room : (q : ℕ) → Memᴰ q points → q ≤ last → load more q ≤ q → ⊥
  pub so_far : SoFar load points more reach

-- before the first point
pub reaching_begins : (load : ℕ → ℕ → ℕ) (points : List ℕ) → ((q : ℕ) → Memᴰ q points → 1 ≤ q) → ReachedBy load points 0 0 None
reaching_begins load points positive = record { no_room = λ q m h. absurd (omega (arith, positive q m)); so_far = refl }

-- after the last point
pub reaching_ends : (load : ℕ → ℕ → ℕ) (ts : List ℕ) (limit last more enough : ℕ) (reach : Option Reach) → limit ≤ last → ReachedBy load (walk_from ts limit) last more reach → Reached load (walk_from ts limit) enough reach
reaching_ends load ts limit last more enough (Some reach) past reached =
    let same = reached.so_far.0 in
    let least = reached.so_far.1 in
    record {
      among_points = least.among_points;
      room = least.room;
      no_more = λ below q m room. reached.no_room q m (omega (arith, walk_within (rows_of ts ts ts) (length ts) limit q m)) (rw same room);
      least = λ below q m room. least.least q m room;
    }
reaching_ends load ts limit last more enough None past reached =
    λ q m room. reached.no_room q m (omega (arith, walk_within (rows_of ts ts ts) (length ts) limit q m)) (rw reached.so_far room)

-- the limit is a point, and where it has room for what is enough, no other is wanted
pub reached_at_limit : (load : ℕ → ℕ → ℕ) (ts : List ℕ) (limit enough raise : ℕ) → LargestAt load limit enough raise → ReachedAt load (walk_from ts limit) enough raise limit
reached_at_limit load ts limit enough raise largest = record {
  among_points = walk_start (rows_of ts ts ts) (length ts) limit;
  room = largest.room;
  no_more = λ below. absurd (omega (arith, largest.at_least));
  least = λ below. absurd (omega (arith, largest.at_least));
}
