-- What a text is as a table on a number of cores, or its refusal 9, 2, 3 or 4 with its row, in that order.
use Rattle.std.specs.Prelude.{ℕ, suc, min, true, false, ◌&&◌, List, [], ◌∷◌, leb, ltb}
use Rattle.theory.specs.Row.{Row, within_limits}
use Rattle.records.specs.Reading.{Reading, table, refused}
use Rattle.texts.specs.Text.{Text, of_rows, not_of_the_form, text_of}

-- rows from the front, the first of which has a number: a 25th (3), a broken limit (4), else what they are
unfoldable pub judged : ℕ → List Row → Reading → Reading
judged number [] sound = sound
judged number (row ∷ rows) sound =
    elim (ltb 24 number) [
      | true ↦ refused 3 0
      | false ↦ elim (within_limits row) [ true ↦ judged (suc number) rows sound | false ↦ refused 4 number ]
    ]

-- rows on a number of cores: cores 0 or above 8 (2), then no rows at all (3), then the rows from the front
unfoldable pub table_from : ℕ → List Row → Reading
table_from cores rows =
    elim (leb 1 cores && leb cores 8) [
      | true ↦ elim rows [ [] ↦ refused 3 0 | row ∷ others ↦ judged 1 (row ∷ others) (table (record { cores = cores; rows = row ∷ others })) ]
      | false ↦ refused 2 0
    ]

-- a line's number in the row's place of an answer, which has 32 bits: a line beyond them gets the last number
unfoldable pub in_rows_place : ℕ → ℕ
in_rows_place line = min line 4_294_967_295

-- what a text is, on a number of cores: a line that is not of the form (9), over the whole text first
unfoldable pub on_cores : ℕ → Text → Reading
on_cores cores (of_rows all) = table_from cores all
on_cores cores (not_of_the_form line) = refused 9 (in_rows_place line)

-- what a text's bytes are, on a number of cores
unfoldable pub read_text : ℕ → List ℕ → Reading
read_text cores text = on_cores cores (text_of text)
