-- The search by halves for the largest raise with which there is room by a limit: what holds between two climbs, and how it goes on.
use Prim.Native.Nat.{ℕ, ◌≤◌, ◌<◌}
use mathlib.Core.List.{List}
use Rattle.theory.specs.Climb.{LeastRoom, Start}
use Rattle.demands.specs.Loads.{raised_load}
use Rattle.raises.specs.Raise.{RoomBy}
use Rattle.raises.proofs.Raised.{least_starts}

-- between two climbs: there is room with the lower raise and none with the higher, and the climb with any raise from the lower one on may go on from `start`
pub record Halving (load : ℕ → ℕ → ℕ) (limit most low high start : ℕ) : Type 0 where
  pub apart : low < high
  pub up_to : high ≤ most
  pub meets_low : RoomBy (load low) limit
  pub misses_high : RoomBy (load high) limit → ⊥
  pub starts : (b : ℕ) → low ≤ b → Start (load b) start

-- a climb that responds takes the lower raise up to it
pub halving_upper : (own : ℕ) (cs ts : List ℕ) (period limit most : ℕ) {low high start middle : ℕ} → Halving (raised_load own cs ts period) limit most low high start
    → middle < high
    → (r : ℕ)
    → LeastRoom (raised_load own cs ts period middle) r × (r ≤ limit)
    → Halving (raised_load own cs ts period) limit most middle high r
halving_upper own cs ts period limit most {middle = middle} h below r said = record {
  apart = below;
  up_to = h.up_to;
  meets_low = record { time = r; room = said.0.room; by_limit = said.1 };
  misses_high = h.misses_high;
  starts = λ b l. least_starts own cs ts period middle b r l said.0;
}
