-- A division rounded towards minus infinity: by a divisor from 1 up it is the Euclidean one.
use mathlib.Core.Path.{◌≡◌, refl}
use lib.IntN.{ℤ, pos, negsuc, nat_abs}
use lib.Signed.{◌≤ℤ◌}
use Rattle.std.specs.Int.{int_div_euclid}
use Rattle.theory.specs.Points.{floor_div}

pub floor_is_euclidean : (z m : ℤ) → pos 1 ≤ℤ m → floor_div z (nat_abs m) ≡ int_div_euclid z m
unfolding floor_div
floor_is_euclidean (pos n) (pos m) some = refl
floor_is_euclidean (negsuc n) (pos m) some = refl
floor_is_euclidean z (negsuc m) some = absurd some.le
