-- What the set service and the point service promise: document 01, "What the certificate covers", and "Refusal numbers", list order 3, 4, 7, 8.
use Rattle.std.specs.Prelude.{◌≡◌, ℕ, suc, ◌≤◌, ◌<◌, ◌⊎◌, List, [], ◌∷◌, ◌++◌, pos, length, get_or, drop}
use Rattle.theory.specs.Returned.{Returned, returned}
use Rattle.theory.specs.Row.{Row, AllWithin, FirstBroken}
use Rattle.theory.specs.Response.{AllMeet, FirstMiss, IsResponse}
use Rattle.theory.specs.Allowance.{IsAllowance}
use Rattle.theory.specs.Points.{IsPointAllowance}

-- the rows that three lists of one length are
unfoldable pub rows_of : List ℕ → List ℕ → List ℕ → List Row
rows_of [] ds ts = []
rows_of (c ∷ cs) [] ts = []
rows_of (c ∷ cs) (d ∷ ds) [] = []
rows_of (c ∷ cs) (d ∷ ds) (t ∷ ts) = record { C = c; D = d; T = t } ∷ rows_of cs ds ts

-- C, D and T of equal length, 1 to 24 rows
pub record Shaped (cs ds ts : List ℕ) : Type 0 where
  pub some_row : 1 ≤ length cs
  pub no_25th : length cs ≤ 24
  pub as_many_deadlines : length ds ≡ length cs
  pub as_many_periods : length ts ≡ length cs

-- a list of one number for each row, of which a relation to the row's place holds
pub record ForEach (rows : List Row) (Right : ℕ → ℕ → Type 0) (numbers : List ℕ) : Type 0 where
  pub one_each : length numbers ≡ length rows
  pub right : (k : ℕ) → k < length rows → Right k (get_or numbers k 0)

-- a lent list whose first entries are the answers; the rest keep their content
abbrev pub filled : List ℕ → List ℕ → List ℕ
filled answers before = answers ++ drop (length answers) before

-- What a list service returns, and what its two lent lists hold at the end. The checks stand in their order, and a refusal leaves
-- both lists as they were. `Allowance rows i a` says that a is the allowance of row i as the service means it.
pub data Answered (Allowance : List Row → ℕ → ℕ → Type 0) (cs ds ts responses allowances : List ℕ) : Returned → List ℕ → List ℕ → Type 0 where
  rows_out_of_range :
      (Shaped cs ds ts → ⊥)
      → Answered Allowance cs ds ts responses allowances (returned 3 0) responses allowances
  row_breaks_limits :
      (k : ℕ)
      → Shaped cs ds ts
      → FirstBroken (rows_of cs ds ts) k
      → Answered Allowance cs ds ts responses allowances (returned 4 (suc k)) responses allowances
  output_too_short :
      Shaped cs ds ts
      → AllWithin (rows_of cs ds ts)
      → (length responses < length cs) ⊎ (length allowances < length cs)
      → Answered Allowance cs ds ts responses allowances (returned 7 0) responses allowances
  row_misses :
      (k : ℕ)
      → Shaped cs ds ts
      → AllWithin (rows_of cs ds ts)
      → length cs ≤ length responses
      → length cs ≤ length allowances
      → FirstMiss (rows_of cs ds ts) k
      → Answered Allowance cs ds ts responses allowances (returned 8 (suc k)) responses allowances
  accepted :
      (Rs As : List ℕ)
      → Shaped cs ds ts
      → AllWithin (rows_of cs ds ts)
      → length cs ≤ length responses
      → length cs ≤ length allowances
      → AllMeet (rows_of cs ds ts)
      → ForEach (rows_of cs ds ts) (IsResponse (rows_of cs ds ts)) Rs
      → ForEach (rows_of cs ds ts) (Allowance (rows_of cs ds ts)) As
      → Answered Allowance cs ds ts responses allowances (returned 0 0) (filled Rs responses) (filled As allowances)

-- the set service: allowances by the definition
abbrev pub SetAnswered : List ℕ → List ℕ → List ℕ → List ℕ → List ℕ → Returned → List ℕ → List ℕ → Type 0
SetAnswered = Answered IsAllowance

-- the point service: allowances by the point formula
abbrev pub PointAnswered : List ℕ → List ℕ → List ℕ → List ℕ → List ℕ → Returned → List ℕ → List ℕ → Type 0
PointAnswered = Answered (λ rows i a. IsPointAllowance rows i (pos a))
