-- Numbers as bytes: unsigned, big-endian.
use Rattle.std.specs.Prelude.{ℕ, ◌+◌, ◌*◌, ◌/◌, ◌%◌, List, [], ◌∷◌, take, drop}

-- the number that bytes are, after those that made `so_far`
unfoldable pub big_endian_from : ℕ → List ℕ → ℕ
big_endian_from so_far [] = so_far
big_endian_from so_far (byte ∷ bytes) = big_endian_from (so_far * 256 + byte) bytes

-- the number in the four bytes from a place on
unfoldable pub number_at : ℕ → List ℕ → ℕ
number_at at bytes = big_endian_from 0 (take 4 (drop at bytes))

-- the four bytes of a number below 2^32
unfoldable pub four_bytes : ℕ → List ℕ
four_bytes n = n / 16777216 % 256 ∷ n / 65536 % 256 ∷ n / 256 % 256 ∷ n % 256 ∷ []
