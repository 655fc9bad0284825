-- The climb gives the least solution where that is at most the limit, and says that it is beyond the limit otherwise. It needs a start
-- that is below every time with room, and rises with each round, so that its rounds are no limit.
use mathlib.Core.Path.{◌≡◌, refl, sym}
use Prim.Native.Nat.{ℕ, zero, suc, ◌+◌, ◌≤◌, ◌<◌}
use mathlib.Core.Bool.{Bool, true, false}
use native.Mathlib.Omega.{arith}
use borrow.Author.Tests.{ltb-true, ltb-false, eqb-true, eqb-false}
use lib.Dec.{ltb, eqb}
use Rattle.theory.specs.Response.{responds, misses, climb}
use Rattle.theory.specs.Climb.{RoomAt, Start, Climbed}

module _ (next : ℕ → ℕ) (mono : (s t : ℕ) → s ≤ t → next s ≤ next t) where
  -- a round later the climb may start again
  pub start_again : (t : ℕ) → Start next t → Start next (next t)
  start_again t start = record {
    from_one = omega (arith, start.from_one, start.rises);
    rises = mono t (next t) start.rises;
    below_room = λ S room. below S room (mono t S (start.below_room S room));
  }
    where
      below : (S : ℕ) → RoomAt next S → next t ≤ next S → next t ≤ S
      below S room h = omega (arith, room.enough)

  pub climb_right : (limit rounds t : ℕ) → Start next t → limit < rounds + t → Climbed next limit (climb next limit rounds t)
  unfolding climb
  climb_right limit zero t start enough = λ S room. omega (arith, start.below_room S room)
  climb_right limit (suc rounds) t start enough =
      at_limit (ltb limit t) refl (λ more. climb_right limit rounds (next t) (start_again t start) more)
    where
      repeated : (b : Bool) → eqb (next t) t ≡ b → t ≤ limit
          → (limit < rounds + next t → Climbed next limit (climb next limit rounds (next t)))
          → Climbed next limit (elim b [ true ↦ responds t | false ↦ climb next limit rounds (next t) ])
      repeated true e h again =
          let same : next t ≡ t = eqb-true (next t) t e in (
            record {
              room = record { from_one = start.from_one; enough = omega (arith, same) };
              repeats = sym same;
              least = start.below_room;
            },
            h,
          )
      repeated false e h again = again (omega (arith, eqb-false (next t) t e, start.rises))

      at_limit : (b : Bool) → ltb limit t ≡ b
          → (limit < rounds + next t → Climbed next limit (climb next limit rounds (next t)))
          → Climbed next limit (elim b [ true ↦ misses | false ↦ elim (eqb (next t) t) [ true ↦ responds t | false ↦ climb next limit rounds (next t) ] ])
      at_limit true e again = λ S room. omega (arith, ltb-true limit t e, start.below_room S room)
      at_limit false e again = repeated (eqb (next t) t) refl (ltb-false limit t e) again
