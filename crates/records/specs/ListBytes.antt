-- Lists of numbers as big-endian bytes, four per number, for the front end in C.
use Rattle.std.specs.Prelude.{◌≡◌, ℕ, ◌%◌, length}
use mathlib.Core.List.{List, [], ◌∷◌, flat_map}
use Rattle.theory.specs.Returned.{Returned, returned}
use Rattle.theory.specs.Row.{Row}
use Rattle.theory.specs.Lists.{Answered, filled}
use Rattle.records.specs.Number.{big_endian_from, four_bytes}

-- the numbers that bytes are, where their length is a multiple of four
unfoldable pub numbers_in : List ℕ → List ℕ
numbers_in [] = []
numbers_in (a ∷ []) = []
numbers_in (a ∷ (b ∷ [])) = []
numbers_in (a ∷ (b ∷ (c ∷ []))) = []
numbers_in (a ∷ (b ∷ (c ∷ (d ∷ bytes)))) = big_endian_from 0 (a ∷ b ∷ c ∷ d ∷ []) ∷ numbers_in bytes

-- the bytes of a list of numbers below 2^32
unfoldable pub bytes_of : List ℕ → List ℕ
bytes_of numbers = flat_map four_bytes numbers

-- a length that is a multiple of four
abbrev pub Fours : List ℕ → Type 0
Fours bytes = length bytes % 4 ≡ 0

-- What a list service returns on bytes, and what its two lent byte strings hold at the end: refusal 3 for a length that is not a
-- multiple of four, else what the service returns on the numbers that the bytes are. Bytes beyond the answers are kept.
pub data BytesAnswered (Allowance : List Row → ℕ → ℕ → Type 0) (cs ds ts responses allowances : List ℕ) : Returned → List ℕ → List ℕ → Type 0 where
  not_fours :
      (Fours cs × Fours ds × Fours ts → ⊥)
      → BytesAnswered Allowance cs ds ts responses allowances (returned 3 0) responses allowances
  as_numbers :
      (returns : Returned) (Rs As : List ℕ)
      → Fours cs × Fours ds × Fours ts
      → Answered Allowance (numbers_in cs) (numbers_in ds) (numbers_in ts) (numbers_in responses) (numbers_in allowances) returns Rs As
      → BytesAnswered Allowance cs ds ts responses allowances returns (filled (bytes_of Rs) responses) (filled (bytes_of As) allowances)
