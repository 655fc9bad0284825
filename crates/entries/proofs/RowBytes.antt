-- Whether three byte strings are rows is told by their lengths alone.
use mathlib.Core.Path.{◌≡◌}
use Prim.Native.Nat.{ℕ, ◌%◌, ◌≤◌}
use mathlib.Core.Logic.{◌⊎◌, inl, inr}
use mathlib.Core.List.{List}
use native.Mathlib.Omega.{arith}
use lib.ListN.{length}
use Rattle.std.specs.Prelude.{Bool, true, ◌↔◌}
use Rattle.theory.specs.Lists.{Shaped}
use Rattle.theory.proofs.Tests.{equal_or_not}
use Rattle.records.specs.ListBytes.{numbers_in, Fours}
use Rattle.records.proofs.ListBytes.{numbers_length}
use Rattle.entries.specs.Lists.{RowBytes}

module _ (cs ds ts : List ℕ) where
  -- lengths of three byte strings that are rows
  pub record RowLengths : Type 0 where
    pub fours : length cs % 4 ≡ 0
    pub as_many_deadlines : length ds ≡ length cs
    pub as_many_periods : length ts ≡ length cs
    pub some_row : 4 ≤ length cs
    pub no_25th : length cs ≤ 96

  pub lengths_of_rows : RowBytes cs ds ts → RowLengths
  lengths_of_rows rows =
      let c = numbers_length cs in
      let d = numbers_length ds in
      let t = numbers_length ts in
      record {
        fours = rows.fours.0;
        as_many_deadlines = omega (arith, rows.fours, rows.shaped);
        as_many_periods = omega (arith, rows.fours, rows.shaped);
        some_row = omega (arith, rows.fours, rows.shaped);
        no_25th = omega (arith, rows.fours, rows.shaped);
      }

  -- the same where a test tells that they are rows
  pub lengths_told : {told : Bool} → (told ≡ true) ↔ RowBytes cs ds ts → told ≡ true → RowLengths
  lengths_told tells told = lengths_of_rows (tells.0 told)

  pub rows_of_lengths : RowLengths → RowBytes cs ds ts
  rows_of_lengths lengths =
      let c = numbers_length cs in
      let d = numbers_length ds in
      let t = numbers_length ts in
      record {
        fours = (lengths.fours, omega arith, omega arith);
        shaped = record { some_row = omega arith; no_25th = omega arith; as_many_deadlines = omega arith; as_many_periods = omega arith };
      }

  -- byte strings that are no rows: a length is not a multiple of four, or the numbers are not as many as rows have
  pub no_rows_because : (RowBytes cs ds ts → ⊥)
      → (Fours cs × Fours ds × Fours ts → ⊥) ⊎ ((Fours cs × Fours ds × Fours ts) × (Shaped (numbers_in cs) (numbers_in ds) (numbers_in ts) → ⊥))
  no_rows_because none = go (equal_or_not (length cs % 4) 0) (equal_or_not (length ds % 4) 0) (equal_or_not (length ts % 4) 0)
    where
      go : Fours cs ⊎ (Fours cs → ⊥)
          → Fours ds ⊎ (Fours ds → ⊥)
          → Fours ts ⊎ (Fours ts → ⊥)
          → (Fours cs × Fours ds × Fours ts → ⊥) ⊎ ((Fours cs × Fours ds × Fours ts) × (Shaped (numbers_in cs) (numbers_in ds) (numbers_in ts) → ⊥))
      go (inl c) (inl d) (inl t) = inr ((c, d, t), λ shaped. none (record { fours = (c, d, t); shaped = shaped }))
      go (inr n) d t = inl (λ fours. n fours.0)
      go (inl c) (inr n) t = inl (λ fours. n fours.1)
      go (inl c) (inl d) (inr n) = inl (λ fours. n fours.2)
