-- What a byte string is as a table, or its refusal 1 to 5 with its row: records from the front, the first fault decides.
use Rattle.std.specs.Prelude.{ℕ, zero, suc, ◌≤◌, true, false, ◌&&◌, List, [], ◌∷◌, ◌++◌, leb, eqb, length, drop}
use Rattle.theory.specs.Row.{Row, within_limits, AllWithin}
use Rattle.placement.specs.Core.{Table}
use Rattle.records.specs.Number.{number_at}

-- a table that keeps the rules: 1 to 8 cores, 1 to 24 rows, each within the limits
pub record TableWithin (t : Table) : Type 0 where
  pub some_core : 1 ≤ t.cores
  pub no_9th_core : t.cores ≤ 8
  pub some_row : 1 ≤ length t.rows
  pub no_25th_row : length t.rows ≤ 24
  pub rows_within : AllWithin t.rows

-- what a byte string is: a table, or a refusal by its number and row
pub data Reading : Type 0 where
  table : Table → Reading
  refused : ℕ → ℕ → Reading

-- the row that the body of a kind 2 record is
unfoldable pub row_in : List ℕ → Row
row_in body = record { C = number_at 0 body; D = number_at 4 body; T = number_at 8 body }

-- behind a kind 4 byte: cut short (1), no rows (3), another count (5), bytes after (1)
unfoldable pub read_count : ℕ → List Row → List ℕ → Reading
read_count cores rows [] = refused 1 0
read_count cores [] (count ∷ after) = refused 3 0
read_count cores (row ∷ rows) (count ∷ []) =
    elim (eqb count (length (row ∷ rows))) [
      | true ↦ table (record { cores = cores; rows = row ∷ rows })
      | false ↦ refused 5 0
    ]
read_count cores (row ∷ rows) (count ∷ (byte ∷ after)) = elim (eqb count (length (row ∷ rows))) [ true ↦ refused 1 0 | false ↦ refused 5 0 ]

-- behind a kind 2 byte: cut short (1), a broken limit (4), else on with the row and what comes after the body
unfoldable pub read_row : List Row → (Row → List ℕ → Reading) → List ℕ → Reading
read_row rows next body =
    elim (leb 12 (length body)) [
      | true ↦ elim (within_limits (row_in body)) [ true ↦ next (row_in body) (drop 12 body) | false ↦ refused 4 (suc (length rows)) ]
      | false ↦ refused 1 0
    ]

-- a record that is a row or the count: its kind byte decides before its body is looked at
unfoldable pub read_record : ℕ → List Row → (List ℕ → Reading) → List ℕ → Reading
read_record cores rows row [] = refused 1 0
read_record cores rows row (kind ∷ body) =
    elim (eqb kind 2) [
      | true ↦ row body
      | false ↦ elim (eqb kind 4) [ true ↦ read_count cores rows body | false ↦ refused 1 0 ]
    ]

-- the records behind kind 1, with the rows read so far and how many more there may be; one more than that is refused before its body
unfoldable pub read_rows : ℕ → ℕ → List Row → List ℕ → Reading
read_rows zero cores rows bytes = read_record cores rows (λ body. refused 3 0) bytes
read_rows (suc left) cores rows bytes =
    read_record cores rows (λ body. read_row rows (λ row after. read_rows left cores (rows ++ (row ∷ [])) after) body) bytes

-- behind a kind 1 byte: cut short (1), cores 0 or above 8 (2)
unfoldable pub read_cores : List ℕ → Reading
read_cores [] = refused 1 0
read_cores (cores ∷ after) = elim (leb 1 cores && leb cores 8) [ true ↦ read_rows 24 cores [] after | false ↦ refused 2 0 ]

-- a table: kind 1, kind 2 records, kind 4, and nothing after
unfoldable pub read_table : List ℕ → Reading
read_table [] = refused 1 0
read_table (kind ∷ body) = elim (eqb kind 1) [ true ↦ read_cores body | false ↦ refused 1 0 ]
