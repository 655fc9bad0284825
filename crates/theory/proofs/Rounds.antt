-- A round of the climb, from a value that it may start from: the value passes the limit, or it repeats, or the climb goes on from the next.
use mathlib.Core.Path.{◌≡◌, sym}
use Prim.Native.Nat.{ℕ, ◌≤◌, ◌<◌}
use native.Mathlib.Omega.{arith}
use Rattle.theory.specs.Response.{responds, misses}
use Rattle.theory.specs.Climb.{Start, Climbed}

module _ {next : ℕ → ℕ} {t : ℕ} (start : Start next t) where
  -- a value past the limit is a miss
  pub passed_misses : {limit : ℕ} → limit < t → Climbed next limit misses
  passed_misses h = λ S room. omega (arith, start.below_room S room)

  -- a value that repeats is the least time with room
  pub repeated_responds : {limit : ℕ} → t ≤ limit → next t ≡ t → Climbed next limit (responds t)
  repeated_responds h e = (
    record {
      room = record { from_one = start.from_one; enough = omega arith };
      repeats = sym e;
      least = start.below_room;
    },
    h,
  )

  -- a value that does not repeat rises
  pub rises_on : (next t ≡ t → ⊥) → t < next t
  rises_on other = omega (arith, start.rises)
