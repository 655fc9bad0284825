-- The smallest of the first numbers of a list is the smallest of its front.
use mathlib.Core.Path.{sym, ◌∙◌, subst}
use Prim.Native.Nat.{ℕ, ◌≤◌, ◌<◌}
use mathlib.Core.List.{List}
use native.Mathlib.Omega.{arith}
use lib.IntN.{ℤ, pos}
use lib.ListN.{length, take}
use lib.Seq.{get_or-take, length-take-le}
use lib.Signed.{◌≤ℤ◌}
use Rattle.fits.specs.Smallest.{IsSmallest}

pub smallest_of_front : (numbers : List ℤ) (n : ℕ) {z : ℤ} → n ≤ length numbers → IsSmallest (take n numbers) (length (take n numbers)) z → IsSmallest numbers n z
smallest_of_front numbers n {z} long is-z =
    let inside : is-z.place < n = omega (arith, is-z.inside, length-take-le n numbers long) in
    record {
      place = is-z.place;
      inside = inside;
      there = sym (get_or-take n numbers is-z.place (pos 0) inside) ∙ is-z.there;
      at_most_each = λ i h.
          subst (λ (y : ℤ). z ≤ℤ y) (get_or-take n numbers i (pos 0) h) (is-z.at_most_each i (omega (arith, h, length-take-le n numbers long)));
    }
