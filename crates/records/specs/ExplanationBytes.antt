-- The explanation on big-endian bytes, four per number, for the front end in C: document 02, request 1.
use Rattle.std.specs.Prelude.{ℕ, List}
use Rattle.theory.specs.Returned.{Returned, returned}
use Rattle.theory.specs.Explanation.{Explained}
use Rattle.records.specs.ListBytes.{numbers_in, Fours}

-- What the explanation of a row returns on bytes, and the two figures that it gives: refusal 3 for a length that is not a multiple of four, and both figures 0;
-- else what it returns on the numbers that the bytes are.
pub data BytesExplained (cs ds ts : List ℕ) (row : ℕ) : Returned → ℕ → ℕ → Type 0 where
  lengths_not_fours : (Fours cs × Fours ds × Fours ts → ⊥) → BytesExplained cs ds ts row (returned 3 0) 0 0
  explained_as_numbers :
      (returns : Returned) (limiting point : ℕ)
      → Fours cs × Fours ds × Fours ts
      → Explained (numbers_in cs) (numbers_in ds) (numbers_in ts) row returns limiting point
      → BytesExplained cs ds ts row returns limiting point
