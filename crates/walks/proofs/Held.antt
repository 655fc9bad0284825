-- Signed numbers as 64 bits hold them: those within the bounds are held as they are, and so is the order of two.
use mathlib.Core.Path.{◌≡◌, refl, ap₂, ◌∙◌, subst₂}
use Prim.Native.Nat.{ℕ, ◌^◌, ◌<◌}
use mathlib.Core.Bool.{Bool, true, false, cond}
use native.Mathlib.Omega.{arith}
use borrow.Author.Tests.{ltb-true, ltb-false}
use lib.Dec.{ltb}
use lib.IntN.{ℤ, pos, ◌-ℤ◌}
use lib.Signed.{mag, lt_z}
use mir.Syntax.{w64}
use mir.Val.{SFits, of_z, to_z}
use mir.ValLaws.{to_z-of_z}
use Rattle.std.specs.Int.{int_max, int_min}
use Rattle.theory.specs.Moved.{greater, smaller}
use Rattle.theory.proofs.Signed.{difference, shortfall}

-- a number as 64 bits hold it
abbrev pub held : ℤ → ℤ
held z = to_z w64 (of_z w64 z)

-- a number within the bounds of 64 bits is held as it is
pub held_as_it_is : (z : ℤ) → mag z < 2 ^ 63 → held z ≡ z
held_as_it_is z h = to_z-of_z w64 z (record { sfits = h })

-- a test of two numbers that fit, as 64 bits hold them, is the numbers' own
pub own_order : (a b : ℤ) (less : Bool) → SFits w64 a → SFits w64 b → lt_z (held a) (held b) ≡ less → lt_z a b ≡ less
own_order a b less f g e = subst₂ (λ (x y : ℤ). lt_z x y ≡ less) (to_z-of_z w64 a f) (to_z-of_z w64 b g) e

-- 0 fits
pub zero_fits : SFits w64 (pos 0)
zero_fits = record { sfits = omega arith }

-- the difference of two natural numbers that fit
pub difference_fits : (a b : ℕ) → a < 2 ^ 63 → b < 2 ^ 63 → SFits w64 (pos a -ℤ pos b)
difference_fits a b h k = go (ltb a b) refl
  where
    go : (less : Bool) → ltb a b ≡ less → SFits w64 (pos a -ℤ pos b)
    go true e = rw (shortfall a b (ltb-true a b e)) (record { sfits = omega arith })
    go false e = rw (difference a b (ltb-false a b e)) (record { sfits = omega arith })

-- the greater of two numbers that fit is std's, and so is the smaller
by_test : (test : Bool) (a b : ℤ) → cond test b a ≡ elim test [ true ↦ b | false ↦ a ]
by_test true a b = refl
by_test false a b = refl

pub greater_held : {a b r : ℤ} → r ≡ int_max (held b) (held a) → SFits w64 r → SFits w64 a → SFits w64 b → held r ≡ greater a b
unfolding greater
greater_held {a} {b} {r} is r-fits a-fits b-fits =
    to_z-of_z w64 r r-fits ∙ is ∙ ap₂ int_max (to_z-of_z w64 b b-fits) (to_z-of_z w64 a a-fits) ∙ by_test (lt_z a b) a b

pub smaller_held : {a b r : ℤ} → r ≡ int_min (held a) (held b) → SFits w64 r → SFits w64 a → SFits w64 b → held r ≡ smaller a b
unfolding smaller
smaller_held {a} {b} {r} is r-fits a-fits b-fits =
    to_z-of_z w64 r r-fits ∙ is ∙ ap₂ int_min (to_z-of_z w64 a a-fits) (to_z-of_z w64 b b-fits) ∙ by_test (lt_z b a) a b
