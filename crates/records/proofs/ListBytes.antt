-- Lists as bytes, four per number: each determines the other.
use mathlib.Core.Path.{◌≡◌, refl, ap, ◌∙◌}
use Prim.Native.Nat.{ℕ, ◌*◌, ◌/◌, ◌^◌}
use mathlib.Core.List.{List, [], ◌∷◌, ◌++◌, flat_map}
use native.Mathlib.Omega.{arith}
use lib.ListN.{length}
use Rattle.theory.specs.Lists.{filled}
use Rattle.records.specs.Number.{big_endian_from, four_bytes}
use Rattle.records.specs.ListBytes.{numbers_in, bytes_of, Fours}
use Rattle.records.proofs.Number.{AllBelow, all_below_drop, four_bytes_long, number_reads_back, four_bytes_read_back}
use Rattle.records.proofs.Lengths.{flat_map_length}

-- a list of numbers has four bytes for each
pub list_bytes_length : (numbers : List ℕ) → length (bytes_of numbers) ≡ 4 * length numbers
unfolding bytes_of
list_bytes_length numbers = flat_map_length four_bytes 4 four_bytes_long numbers

-- numbers below 2^32 read back from their bytes
pub numbers_read_back : (numbers : List ℕ) → AllBelow (2 ^ 32) numbers → numbers_in (bytes_of numbers) ≡ numbers
unfolding bytes_of flat_map numbers_in four_bytes
numbers_read_back [] below = refl
numbers_read_back (n ∷ numbers) below =
    cc (number_reads_back n (below 0 (omega arith)), numbers_read_back numbers (all_below_drop (2 ^ 32) 1 (n ∷ numbers) below))

-- as many numbers as there are fours of bytes
pub numbers_length : (bytes : List ℕ) → length (numbers_in bytes) ≡ length bytes / 4
unfolding numbers_in
numbers_length [] = refl
numbers_length (a ∷ []) = refl
numbers_length (a ∷ (b ∷ [])) = refl
numbers_length (a ∷ (b ∷ (c ∷ []))) = refl
numbers_length (a ∷ (b ∷ (c ∷ (d ∷ bytes)))) = omega (arith, numbers_length bytes)

-- bytes whose length is a multiple of four are those of the numbers that they are
pub list_bytes_read_back : (bytes : List ℕ) → AllBelow 256 bytes → Fours bytes → bytes_of (numbers_in bytes) ≡ bytes
unfolding bytes_of flat_map numbers_in
list_bytes_read_back [] below fours = refl
list_bytes_read_back (a ∷ []) below fours = absurd (omega arith)
list_bytes_read_back (a ∷ (b ∷ [])) below fours = absurd (omega arith)
list_bytes_read_back (a ∷ (b ∷ (c ∷ []))) below fours = absurd (omega arith)
list_bytes_read_back (a ∷ (b ∷ (c ∷ (d ∷ bytes)))) below fours =
    cc (four_bytes_read_back a b c d bytes below, list_bytes_read_back bytes (all_below_drop 256 4 (a ∷ b ∷ c ∷ d ∷ bytes) below) (omega arith))

-- a number's bytes fill the first four
pub number_first : (n a b c d : ℕ) (more bytes : List ℕ) → filled (four_bytes n ++ more) (a ∷ b ∷ c ∷ d ∷ bytes) ≡ four_bytes n ++ filled more bytes
unfolding four_bytes
number_first n a b c d more bytes = refl

-- bytes filled with those of the numbers that they are are kept, also where their length is no multiple of four
pub kept : (bytes : List ℕ) → AllBelow 256 bytes → filled (bytes_of (numbers_in bytes)) bytes ≡ bytes
unfolding numbers_in bytes_of flat_map
kept [] below = refl
kept (a ∷ []) below = refl
kept (a ∷ (b ∷ [])) below = refl
kept (a ∷ (b ∷ (c ∷ []))) below = refl
kept (a ∷ (b ∷ (c ∷ (d ∷ bytes)))) below =
    let n = big_endian_from 0 (a ∷ b ∷ c ∷ d ∷ []) in
    number_first n a b c d (bytes_of (numbers_in bytes)) bytes
    ∙ ap (λ (behind : List ℕ). four_bytes n ++ behind) (kept bytes (all_below_drop 256 4 (a ∷ b ∷ c ∷ d ∷ bytes) below))
    ∙ ap (λ (front : List ℕ). front ++ bytes) (four_bytes_read_back a b c d bytes below)
