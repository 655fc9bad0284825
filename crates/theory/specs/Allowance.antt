-- Allowances: document 01, "Allowance".
use Rattle.std.specs.Prelude.{ℕ, ◌+◌, ◌≤◌, ◌<◌, List, length, set}
use Rattle.theory.specs.Row.{Row, row_at}
use Rattle.theory.specs.Response.{AllMeet}

-- the set with another row in the place of row i, and nothing else changed
abbrev pub replaced : List Row → ℕ → Row → List Row
replaced rows i row = set rows i row

-- a row with C + a in place of C
abbrev pub longer : Row → ℕ → Row
longer row a = record { C = row.C + a; D = row.D; T = row.T }

-- the set with C + a in place of C in row i
abbrev pub raised : List Row → ℕ → ℕ → List Row
raised rows i a = replaced rows i (longer (row_at rows i) a)

-- the allowance of row i: the largest a with which all rows of the set still meet
pub record IsAllowance (rows : List Row) (i a : ℕ) : Type 0 where
  pub all_meet : AllMeet (raised rows i a)
  pub largest : (b : ℕ) → AllMeet (raised rows i b) → b ≤ a

-- the allowance of a core with these rows: the smallest of its rows'
pub record IsCoreAllowance (rows : List Row) (a : ℕ) : Type 0 where
  pub row : ℕ
  pub in_set : row < length rows
  pub its_allowance : IsAllowance rows row a
  pub smallest : (i b : ℕ) → i < length rows → IsAllowance rows i b → a ≤ b
