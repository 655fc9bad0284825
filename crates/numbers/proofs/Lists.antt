-- Numbers in bytes, one number more at a time: what is read at the front of an array, and what is written at the front of a byte string.
use mathlib.Core.Path.{◌≡◌, refl, sym, ◌∙◌}
use Prim.Native.Nat.{ℕ, zero, suc, ◌+◌, ◌*◌, ◌/◌, ◌≤◌, ◌<◌}
use mathlib.Core.List.{List, [], ◌∷◌, ◌++◌}
use native.Mathlib.Omega.{arith}
use native.Mathlib.Nat.{zero-add}
use native.Mathlib.Numerals.{add-one}
use lib.ListN.{length, get_or, take, drop, set}
use lib.Seq.{take-suc, take-suc-set, take_all, take-length}
use Rattle.theory.specs.Lists.{filled}
use Rattle.records.specs.Number.{number_at, four_bytes}
use Rattle.records.specs.ListBytes.{numbers_in, bytes_of}
use Rattle.records.proofs.Number.{four_bytes_long}
use Rattle.records.proofs.ListBytes.{numbers_length}
use Rattle.numbers.proofs.Written.{written, written_from_front, one_more_written}

-- the number at a place stands in the four bytes from four times that place on
number_stands : (bytes : List ℕ) (j : ℕ) → 4 * j + 4 ≤ length bytes → get_or (numbers_in bytes) j 0 ≡ number_at (4 * j) bytes
unfolding numbers_in number_at
number_stands [] j inside = absurd (omega arith)
number_stands (a ∷ []) j inside = absurd (omega arith)
number_stands (a ∷ (b ∷ [])) j inside = absurd (omega arith)
number_stands (a ∷ (b ∷ (c ∷ []))) j inside = absurd (omega arith)
number_stands (a ∷ (b ∷ (c ∷ (d ∷ bytes)))) zero inside = refl
number_stands (a ∷ (b ∷ (c ∷ (d ∷ bytes)))) (suc j) inside =
    let further : 4 * suc j ≡ suc (suc (suc (suc (4 * j)))) = omega arith in
    rw further (number_stands bytes j (omega arith))

-- one number more is read
pub number_more_read : (bytes numbers : List ℕ) (j : ℕ) → j < length bytes / 4 → j < length numbers
    → take j numbers ≡ take j (numbers_in bytes)
    → take (j + 1) (set numbers j (number_at (4 * j) bytes)) ≡ take (j + 1) (numbers_in bytes)
number_more_read bytes numbers j inside room so_far =
    rw (add-one j, take-suc-set numbers j (number_at (4 * j) bytes) room, so_far, ← number_stands bytes j (omega arith))
    (sym (take-suc (numbers_in bytes) j 0 (omega (arith, numbers_length bytes))))

-- all are read
pub numbers_all_read : (bytes numbers : List ℕ) (j : ℕ) → j ≡ length bytes / 4 → take j numbers ≡ take j (numbers_in bytes) → take (length bytes / 4) numbers ≡ numbers_in bytes
numbers_all_read bytes numbers j all so_far = rw (← all) (so_far ∙ take_all j (numbers_in bytes) (omega (arith, numbers_length bytes)))

-- one number more is written
pub number_more_put : (before numbers now : List ℕ) (j : ℕ) → j < length numbers
    → now ≡ written before 0 (bytes_of (take j numbers))
    → take (4 * j) now ++ four_bytes (get_or numbers j 0) ++ drop (4 * j + 4) now ≡ written before 0 (bytes_of (take (j + 1) numbers))
unfolding bytes_of four_bytes
number_more_put before numbers now j inside so_far =
    rw (← zero-add (4 * j)) (one_more_written four_bytes 4 four_bytes_long numbers 0 before now 0 j inside (omega arith) so_far)

-- all are written
pub numbers_all_put : (before numbers : List ℕ) (j : ℕ) → j ≡ length numbers → written before 0 (bytes_of (take j numbers)) ≡ filled (bytes_of numbers) before
numbers_all_put before numbers j all = rw (all, take-length numbers) (written_from_front before (bytes_of numbers))
