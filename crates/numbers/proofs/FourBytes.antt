-- The number that is read in four bytes from a place on.
use mathlib.Core.Path.{◌≡◌, refl, ap, ◌∙◌}
use Prim.Native.Nat.{ℕ, zero, suc, ◌+◌, ◌*◌, ◌≤◌}
use mathlib.Core.List.{List, [], ◌∷◌}
use native.Mathlib.Omega.{arith}
use native.Mathlib.Nat.{suc-add}
use lib.ListN.{length, get_or, take, drop}
use Rattle.records.specs.Number.{big_endian_from, number_at}

-- the four bytes are the entries there
four_read : (bytes : List ℕ) (at : ℕ) → at + 4 ≤ length bytes
    → take 4 (drop at bytes) ≡ get_or bytes at 0 ∷ get_or bytes (at + 1) 0 ∷ get_or bytes (at + 2) 0 ∷ get_or bytes (at + 3) 0 ∷ []
four_read [] at h = absurd (omega arith)
four_read (a ∷ []) zero h = absurd (omega arith)
four_read (a ∷ b ∷ []) zero h = absurd (omega arith)
four_read (a ∷ b ∷ c ∷ []) zero h = absurd (omega arith)
four_read (a ∷ b ∷ c ∷ d ∷ rest) zero h = refl
four_read (a ∷ bytes) (suc at) h = rw (suc-add at 1, suc-add at 2, suc-add at 3) (four_read bytes at (omega arith))

-- the number there, from its bytes
pub number_read : (bytes : List ℕ) (at : ℕ) → at + 4 ≤ length bytes
    → number_at at bytes ≡ ((get_or bytes at 0 * 256 + get_or bytes (at + 1) 0) * 256 + get_or bytes (at + 2) 0) * 256 + get_or bytes (at + 3) 0
unfolding number_at big_endian_from
number_read bytes at h =
    let plain : big_endian_from 0 (get_or bytes at 0 ∷ get_or bytes (at + 1) 0 ∷ get_or bytes (at + 2) 0 ∷ get_or bytes (at + 3) 0 ∷ []) ≡ ((get_or bytes at 0 * 256 + get_or bytes (at + 1) 0) * 256 + get_or bytes (at + 2) 0) * 256 + get_or bytes (at + 3) 0 = omega arith in
    ap (big_endian_from 0) (four_read bytes at h) ∙ plain
