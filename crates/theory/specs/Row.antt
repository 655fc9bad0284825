-- A row of a task table and its limits: document 01, "What the certificate covers".
use Rattle.std.specs.Prelude.{ℕ, ◌≤◌, ◌<◌, Bool, ◌&&◌, List, leb, length, get_or}

-- worst-case execution time, relative deadline, minimum separation (the period), in ticks
pub record Row : Type 0 where
  pub C : ℕ
  pub D : ℕ
  pub T : ℕ

-- 1 ≤ C ≤ D ≤ T ≤ 1,000,000
pub record WithinLimits (row : Row) : Type 0 where
  pub runs : 1 ≤ row.C
  pub by_deadline : row.C ≤ row.D
  pub by_period : row.D ≤ row.T
  pub by_million : row.T ≤ 1_000_000

-- the same as a test
abbrev pub within_limits : Row → Bool
within_limits row = leb 1 row.C && leb row.C row.D && leb row.D row.T && leb row.T 1_000_000

-- the row at a place; places count from 0, and a row's number is its place plus 1
abbrev pub row_at : List Row → ℕ → Row
row_at rows k = get_or rows k (record { C = 0; D = 0; T = 0 })

-- every row keeps the limits
abbrev pub AllWithin : List Row → Type 0
AllWithin rows = (k : ℕ) → k < length rows → WithinLimits (row_at rows k)

-- the first row that breaks the limits
pub record FirstBroken (rows : List Row) (k : ℕ) : Type 0 where
  pub in_table : k < length rows
  pub breaks : WithinLimits (row_at rows k) → ⊥
  pub earlier_keep : (h : ℕ) → h < k → WithinLimits (row_at rows h)
