-- The greater and the smaller of two numbers, by the test that picks one.
use mathlib.Core.Path.{◌≡◌, refl}
use mathlib.Core.Bool.{true, false}
use lib.IntN.{ℤ}
use lib.Signed.{lt_z}
use Rattle.theory.specs.Moved.{greater, smaller}

-- the greater: the second where the test passes, the first where it fails
pub greater_second : (a b : ℤ) → lt_z a b ≡ true → greater a b ≡ b
unfolding greater
greater_second a b e = rw (e, greater) refl

pub greater_first : (a b : ℤ) → lt_z a b ≡ false → greater a b ≡ a
unfolding greater
greater_first a b e = rw (e, greater) refl

-- the smaller, in the same way
pub smaller_second : (a b : ℤ) → lt_z b a ≡ true → smaller a b ≡ b
unfolding smaller
smaller_second a b e = rw (e, smaller) refl

pub smaller_first : (a b : ℤ) → lt_z b a ≡ false → smaller a b ≡ a
unfolding smaller
smaller_first a b e = rw (e, smaller) refl
