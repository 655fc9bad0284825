-- Numbers below 2^32 and their four bytes: each determines the other.
use mathlib.Core.Path.{◌≡◌, refl, ap}
use Prim.Native.Nat.{ℕ, zero, suc, ◌+◌, ◌/◌, ◌^◌, ◌≤◌, ◌<◌}
use mathlib.Core.List.{List, [], ◌∷◌, ◌++◌}
use native.Mathlib.Omega.{arith}
use native.Mathlib.Nat.{mod-eq_of_lt, div-div-eq-div-mul}
use lib.ListN.{length, get_or, drop, length-drop}
use lib.Seq.{get_or-drop}
use Rattle.records.specs.Number.{big_endian_from, number_at, four_bytes}

-- each number of a list is below a bound; bytes are numbers below 256
abbrev pub AllBelow : ℕ → List ℕ → Type 0
AllBelow bound numbers = (k : ℕ) → k < length numbers → get_or numbers k 0 < bound

-- so are those behind the first
pub all_below_drop : (bound n : ℕ) (numbers : List ℕ) → AllBelow bound numbers → AllBelow bound (drop n numbers)
all_below_drop bound n numbers below k inside = rw get_or-drop (below (n + k) (omega (arith, length-drop n numbers)))

-- the bytes of a number are four
pub four_bytes_long : (n : ℕ) → length (four_bytes n) ≡ 4
unfolding four_bytes
four_bytes_long n = refl

-- and bytes they are
pub four_bytes_below : (n : ℕ) → AllBelow 256 (four_bytes n)
unfolding four_bytes
four_bytes_below n zero inside = omega arith
four_bytes_below n (suc zero) inside = omega arith
four_bytes_below n (suc (suc zero)) inside = omega arith
four_bytes_below n (suc (suc (suc zero))) inside = omega arith
four_bytes_below n (suc (suc (suc (suc k)))) inside = omega arith

-- four bytes are the same where each is
same_four : {a b c d e f g h : ℕ} → a ≡ e → b ≡ f → c ≡ g → d ≡ h → a ∷ b ∷ c ∷ d ∷ [] ≡ e ∷ f ∷ g ∷ h ∷ []
same_four p q r s = cc

-- four bytes, before others
module _ (a b c d : ℕ) (others : List ℕ) (below : AllBelow 256 (a ∷ b ∷ c ∷ d ∷ others)) where
  -- each is below 256
  each_below : (a < 256) × (b < 256) × (c < 256) × (d < 256)
  each_below = (below 0 (omega arith), below 1 (omega arith), below 2 (omega arith), below 3 (omega arith))

  -- the number that they are is below 2^32
  pub four_bytes_number_small : big_endian_from 0 (a ∷ b ∷ c ∷ d ∷ []) < 2 ^ 32
  unfolding big_endian_from
  four_bytes_number_small = omega (arith, each_below)

  -- they are the four bytes of that number
  pub four_bytes_read_back : four_bytes (big_endian_from 0 (a ∷ b ∷ c ∷ d ∷ [])) ≡ a ∷ b ∷ c ∷ d ∷ []
  unfolding four_bytes big_endian_from
  four_bytes_read_back = same_four (omega (arith, each_below)) (omega (arith, each_below)) (omega (arith, each_below)) (omega (arith, each_below))

-- a number below 2^32 reads back from its four bytes
pub number_reads_back : (n : ℕ) → n < 2 ^ 32 → big_endian_from 0 (four_bytes n) ≡ n
unfolding four_bytes big_endian_from
number_reads_back n small =
    let top : n / 16777216 < 256 = omega arith in
    omega (arith, mod-eq_of_lt top, div-div-eq-div-mul n 256 256, div-div-eq-div-mul n 65536 256)

-- bytes that are at least four begin with the four bytes of the number at their front
pub front_number_bytes : (bytes : List ℕ) → 4 ≤ length bytes → AllBelow 256 bytes → four_bytes (number_at 0 bytes) ++ drop 4 bytes ≡ bytes
unfolding number_at
front_number_bytes [] long below = absurd (omega arith)
front_number_bytes (a ∷ []) long below = absurd (omega arith)
front_number_bytes (a ∷ (b ∷ [])) long below = absurd (omega arith)
front_number_bytes (a ∷ (b ∷ (c ∷ []))) long below = absurd (omega arith)
front_number_bytes (a ∷ (b ∷ (c ∷ (d ∷ bytes)))) long below = ap (λ front. front ++ bytes) (four_bytes_read_back a b c d bytes below)
