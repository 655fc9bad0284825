-- The load with a raise grows with time and with the raise, so there is room with less where there is with more, and a response time with less is a start
-- for the climb with more.
use mathlib.Core.Path.{◌≡◌, fun_ext}
use Prim.Native.Nat.{ℕ, ◌≤◌}
use mathlib.Core.List.{List}
use native.Mathlib.Omega.{arith}
use native.Mathlib.Nat.{le_trans, mul-le-mul_left, mul-le-mul_right, zero-mul}
use Rattle.theory.specs.Response.{ceil}
use Rattle.theory.specs.Climb.{RoomAt, LeastRoom, Start}
use Rattle.theory.proofs.Ceil.{ceil_mono}
use Rattle.demands.specs.Levels.{load_of}
use Rattle.climbs.proofs.Load.{load_of_mono}
use Rattle.demands.specs.Loads.{raised_load}
use Rattle.raises.specs.Raise.{RoomBy}

module _ (own : ℕ) (cs ts : List ℕ) (period : ℕ) where
  -- the load with a raise
  abbrev load : ℕ → ℕ → ℕ
  load = raised_load own cs ts period

  -- it grows with time
  pub raised_mono : (a s t : ℕ) → s ≤ t → load a s ≤ load a t
  raised_mono a s t h = omega (arith, load_of_mono own cs ts s t h, mul-le-mul_left a (ceil_mono period h))

  -- it grows with the raise
  pub raise_mono : (a b t : ℕ) → a ≤ b → load a t ≤ load b t
  raise_mono a b t h = omega (arith, mul-le-mul_right (ceil t period) h)

  -- a raise of nothing changes no load
  pub raised_by_none : load 0 ≡ load_of own cs ts
  raised_by_none = fun_ext (λ t. omega (arith, zero-mul (ceil t period)))

  -- a time with room with more has room with less
  pub room_at_with_less : (a b S : ℕ) → a ≤ b → RoomAt (load b) S → RoomAt (load a) S
  room_at_with_less a b S h room = record { from_one = room.from_one; enough = le_trans (raise_mono a b S h) room.enough }

  -- so there is room by a limit with less where there is with more
  pub room_with_less : (a b limit : ℕ) → a ≤ b → RoomBy (load b) limit → RoomBy (load a) limit
  room_with_less a b limit h by = record { time = by.time; room = room_at_with_less a b by.time h by.room; by_limit = by.by_limit }

  -- the response time with less is a start for the climb with more
  pub least_starts : (a b R : ℕ) → a ≤ b → LeastRoom (load a) R → Start (load b) R
  least_starts a b R h l = record {
    from_one = l.room.from_one;
    rises = omega (arith, l.repeats, raise_mono a b R h);
    below_room = λ S room. l.least S (room_at_with_less a b S h room);
  }
