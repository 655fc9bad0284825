-- The first byte of a byte string, and the bytes behind it.
use mathlib.Core.Path.{◌≡◌, refl}
use Prim.Native.Nat.{ℕ, ◌-◌, ◌≤◌, ◌<◌}
use native.Mathlib.Omega.{arith}
use mathlib.Core.List.{List, [], ◌∷◌}
use lib.ListN.{length, get_or, take, drop, length-drop}
use lib.Seq.{take_all}

pub none_left : (bytes : List ℕ) → length bytes < 1 → bytes ≡ []
none_left [] none = refl
none_left (byte ∷ bytes) none = absurd (omega arith)

pub byte_and_rest : (bytes : List ℕ) → 1 ≤ length bytes → bytes ≡ get_or bytes 0 0 ∷ drop 1 bytes
byte_and_rest [] some = absurd (omega arith)
byte_and_rest (byte ∷ bytes) some = refl

-- what is left behind the first bytes, up to the end
pub rest_whole : (k : ℕ) (bytes : List ℕ) → take (length bytes - k) (drop k bytes) ≡ drop k bytes
rest_whole k bytes = take_all (length bytes - k) (drop k bytes) (omega (arith, length-drop k bytes))
