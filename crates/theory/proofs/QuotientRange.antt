-- Where a quotient lies: at most the time, and at least minus the load.
use mathlib.Core.Path.{◌≡◌, refl}
use Prim.Native.Nat.{ℕ, suc, ◌-◌, ◌/◌, ◌≤◌}
use mathlib.Core.Bool.{Bool, true, false}
use native.Mathlib.Omega.{arith}
use native.Mathlib.Nat.{div-le_self}
use borrow.Author.Tests.{ltb-true, ltb-false}
use lib.Dec.{ltb, le→leb}
use lib.IntN.{pos, negsuc, ◌-ℤ◌}
use lib.Signed.{◌≤ℤ◌}
use Rattle.theory.specs.Points.{floor_div}
use Rattle.theory.proofs.Signed.{difference, shortfall, pos_le}

-- no quotient is above the time
pub quotient_at_most : (t l m : ℕ) → floor_div (pos t -ℤ pos l) m ≤ℤ pos t
unfolding floor_div
quotient_at_most t l m = go (ltb t l) refl
  where
    go : (b : Bool) → ltb t l ≡ b → floor_div (pos t -ℤ pos l) m ≤ℤ pos t
    go true e = rw (shortfall t l (ltb-true t l e)) (record { le = tt })
    go false e = rw (difference t l (ltb-false t l e)) (pos_le (omega (arith, div-le_self (t - l) m)))

-- none is below minus the load
pub quotient_at_least : (n t l m : ℕ) → l ≤ suc n → negsuc n ≤ℤ floor_div (pos t -ℤ pos l) m
unfolding floor_div
quotient_at_least n t l m h = go (ltb t l) refl
  where
    go : (b : Bool) → ltb t l ≡ b → negsuc n ≤ℤ floor_div (pos t -ℤ pos l) m
    go true e =
        rw (shortfall t l (ltb-true t l e))
        (record { le = le→leb ((l - suc t) / m) n (omega (arith, div-le_self (l - suc t) m, ltb-true t l e)) })
    go false e = rw (difference t l (ltb-false t l e)) (record { le = tt })
