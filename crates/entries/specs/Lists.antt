-- Both list services on bytes, step by step: byte strings that are rows, the numbers read from them, and answer lists that are bytes.
use Rattle.std.specs.Prelude.{◌≡◌, ℕ, ◌≤◌, List, take, Result, Ok, Err}
use Rattle.answers.specs.declared.Refusal.{Refusal}
use Rattle.answers.specs.declared.Refusal.TheVariants.{RowsOutOfRange}
use Rattle.theory.specs.Returned.{Returned}
use Rattle.theory.specs.Row.{Row}
use Rattle.theory.specs.Lists.{Shaped, filled, Answered}
use Rattle.records.specs.ListBytes.{numbers_in, bytes_of, Fours}
use Rattle.entries.specs.declared.lists.Lists.{Lists}

-- three byte strings that pass refusal 3: four bytes for each of 1 to 24 rows
pub record RowBytes (cs ds ts : List ℕ) : Type 0 where
  pub fours : Fours cs × Fours ds × Fours ts
  pub shaped : Shaped (numbers_in cs) (numbers_in ds) (numbers_in ts)

-- what three byte strings are read as: refused where they are no rows, else the numbers that they are, one at least in each list
pub data AreLists (cs ds ts : List ℕ) : Result Lists Refusal → Type 0 where
  no_rows : (RowBytes cs ds ts → ⊥) → AreLists cs ds ts (Err RowsOutOfRange)
  as_lists :
      (lists : Lists)
      → 1 ≤ lists.n
      → Fours cs × Fours ds × Fours ts
      → take lists.n lists.c ≡ numbers_in cs
      → take lists.n lists.d ≡ numbers_in ds
      → take lists.n lists.t ≡ numbers_in ts
      → AreLists cs ds ts (Ok lists)

-- what a service returns on rows as numbers, with its two lent lists as bytes, and these bytes at the end
pub record AnsweredInBytes (Allowance : List Row → ℕ → ℕ → Type 0) (cs ds ts responses allowances : List ℕ) (returns : Returned) (responses-after allowances-after : List ℕ) : Type 0 where
  pub Rs : List ℕ
  pub As : List ℕ
  pub answered : Answered Allowance cs ds ts (numbers_in responses) (numbers_in allowances) returns Rs As
  pub responses_are : responses-after ≡ filled (bytes_of Rs) responses
  pub allowances_are : allowances-after ≡ filled (bytes_of As) allowances
