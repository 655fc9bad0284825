-- What makes a value a start: of a load that grows with time, it is enough that no time with room is before the value. The next value is one again, and a
-- start with less tells one with more.
use mathlib.Core.Path.{◌≡◌, refl, ap, ◌∙◌}
use Prim.Native.Nat.{ℕ, ◌+◌, ◌-◌, ◌*◌, ◌≤◌, ◌<◌}
use mathlib.Core.Bool.{Bool, true, false}
use mathlib.Core.List.{List}
use native.Mathlib.Omega.{arith}
use native.Mathlib.Nat.{add-mul, mul-one, mul-le-mul_left}
use borrow.Author.Tests.{leb-true, leb-false}
use lib.Dec.{leb}
use Rattle.theory.specs.Response.{ceil}
use Rattle.theory.specs.Climb.{RoomAt, Start}
use Rattle.theory.proofs.Ceil.{ceil_positive}
use Rattle.theory.proofs.Climb.{start_again}
use Rattle.theory.proofs.Rounds.{rises_on}
use Rattle.demands.specs.Loads.{raised_load}
use Rattle.raises.proofs.Raised.{raised_mono}

module _ (next : ℕ → ℕ) (mono : (s t : ℕ) → s ≤ t → next s ≤ next t) where
  -- a value that is below no time with room is a start: were the load lower there, a tick earlier would have room
  pub starts : 1 ≤ next 1 → (t : ℕ) → 1 ≤ t → ((S : ℕ) → RoomAt next S → t ≤ S) → Start next t
  starts some t positive below = record { from_one = positive; rises = go (leb t (next t)) refl; below_room = below }
    where
      go : (b : Bool) → leb t (next t) ≡ b → t ≤ next t
      go true e = leb-true t (next t) e
      go false e =
          let lower : next t < t = leb-false t (next t) e in
          let earlier : 1 ≤ t - 1 = omega (arith, mono 1 t positive) in
          absurd (omega (arith, below (t - 1) (record { from_one = earlier; enough = omega (arith, mono (t - 1) t (omega arith)) })))

  -- a value that does not repeat lies above the one at hand, and the climb may go on from it
  pub next_starts : {t : ℕ} → Start next t → (v : ℕ) → v ≡ next t → (v ≡ t → ⊥) → (t < v) × Start next v
  next_starts {t} start v is_next other = rw is_next (rises_on start (λ e. other (is_next ∙ e)), start_again next mono t start)

-- a start with less is one with more, the difference later: the raise is counted at least once
pub start_with_more : (own : ℕ) (cs ts : List ℕ) (period a b s : ℕ) → a ≤ b → 1 ≤ own → 1 ≤ period → Start (raised_load own cs ts period a) s
    → Start (raised_load own cs ts period b) (s + (b - a))
start_with_more own cs ts period a b s h runs positive start =
    starts (raised_load own cs ts period b) (raised_mono own cs ts period b) (omega arith) (s + (b - a)) (omega (arith, start.from_one)) below
  where
    below : (S : ℕ) → RoomAt (raised_load own cs ts period b) S → s + (b - a) ≤ S
    below S room =
        let more = b - a in
        let sum : b ≡ a + more = omega arith in
        let apart : b * ceil S period ≡ a * ceil S period + more * ceil S period = ap (λ (n : ℕ). n * ceil S period) sum ∙ add-mul a more (ceil S period) in
        let once : more ≤ more * ceil S period = omega (arith, mul-le-mul_left more (ceil_positive S {m = period} positive room.from_one), mul-one more) in
        let earlier = S - more in
        let fits : raised_load own cs ts period a earlier ≤ earlier = omega (arith, apart, once, room.enough, raised_mono own cs ts period a earlier S (omega arith)) in
        omega (arith, apart, once, room.enough, start.below_room earlier (record { from_one = omega (arith, apart, once, room.enough); enough = fits }))
