-- One record behind kind 1 as the code takes it: a row to go on with, the end of the table, or a refusal.
use Rattle.std.specs.Prelude.{◌≡◌, ℕ, ◌+◌, ◌-◌, ◌≤◌, ◌<◌, List, [], ◌∷◌, ◌++◌, length, drop, Result, Ok, Err, Option, Some, None}
use Rattle.answers.specs.declared.Refusal.{Refusal}
use Rattle.answers.specs.Answer.{Answer}
use Rattle.theory.specs.Row.{Row}
use Rattle.rows.specs.declared.Row.{Row as HeldRow}
use Rattle.rows.specs.Values.{row_of}
use Rattle.records.specs.Reading.{Reading, table, read_count, read_rows}
use Rattle.reading.specs.Read.{refused_by}

-- the reading that ends with an answer behind some rows: the table where it is accepted, else the refusal
abbrev pub ended_with : Answer → ℕ → List Row → Reading
ended_with (Ok accepted) cores rows = table (record { cores = cores; rows = rows })
ended_with (Err refusal) cores rows = refused_by refusal

-- the answer to the body of a kind 4 record, behind any n rows
abbrev pub IsCount : List ℕ → ℕ → Answer → Type 0
IsCount body n answer = (cores : ℕ) (rows : List Row) → length rows ≡ n → read_count cores rows body ≡ ended_with answer cores rows

-- the first of some records, behind any n rows, ends the reading with an answer
abbrev pub Ends : List ℕ → ℕ → Answer → Type 0
Ends records n answer = (cores : ℕ) (rows : List Row) → length rows ≡ n → read_rows (24 - n) cores rows records ≡ ended_with answer cores rows

-- the first of some records, behind any n rows, is one more row, and reading goes on with it
pub record IsRow (records : List ℕ) (n : ℕ) (row : Row) : Type 0 where
  pub no_25th_row : n < 24
  pub whole : 13 ≤ length records
  pub goes_on :
      (cores : ℕ) (rows : List Row)
      → length rows ≡ n
      → read_rows (24 - n) cores rows records ≡ read_rows (24 - (n + 1)) cores (rows ++ (row ∷ [])) (drop 13 records)

-- what a kind 2 record behind n rows is: one more row, or a refusal
abbrev pub IsRowRead : List ℕ → ℕ → Result HeldRow Refusal → Type 0
IsRowRead records n (Ok row) = IsRow records n (row_of row)
IsRowRead records n (Err refusal) = Ends records n (Err refusal)

-- what the first of some records behind n rows is: one more row, the end of the table, or a refusal
abbrev pub IsNext : List ℕ → ℕ → Result (Option HeldRow) Refusal → Type 0
IsNext records n (Ok (Some row)) = IsRow records n (row_of row)
IsNext records n (Ok None) = Ends records n (Ok tt)
IsNext records n (Err refusal) = Ends records n (Err refusal)
