-- Every way in which a table may be written as a text: RFC 4180's grammar, cut down to a header and rows of three numbers.
use Rattle.std.specs.Prelude.{ℕ, zero, suc, ◌-◌, ◌<◌, List, [], ◌∷◌, ◌++◌, get_or, replicate}
use Rattle.theory.specs.Row.{Row}
use Rattle.listing.specs.Listing.{ascii, decimal}
use Rattle.texts.specs.Text.{LF, CR, quote, comma, lines_of}

-- the byte of the digit 0
abbrev pub digit_zero : ℕ
digit_zero = 48

-- a field that holds some bytes: plain or quoted
pub data FieldOf (content : List ℕ) : List ℕ → Type 0 where
  plain : FieldOf content content
  quoted : FieldOf content (quote ∷ content ++ (quote ∷ []))

-- a field that holds a number: its decimal digits, behind any leading zeros
pub data NumberField (n : ℕ) : List ℕ → Type 0 where
  digits : (zeros : ℕ) {field : List ℕ} → FieldOf (replicate zeros digit_zero ++ decimal n) field → NumberField n field

-- fields with commas between them
unfoldable pub joined : List (List ℕ) → List ℕ
joined [] = []
joined (field ∷ []) = field
joined (field ∷ (next ∷ fields)) = field ++ (comma ∷ joined (next ∷ fields))

-- the header's line: three names
pub data HeaderLine : List ℕ → Type 0 where
  header :
      {wcet deadline period : List ℕ}
      → FieldOf (ascii "wcet") wcet
      → FieldOf (ascii "deadline") deadline
      → FieldOf (ascii "period") period
      → HeaderLine (joined (wcet ∷ deadline ∷ period ∷ []))

-- a row's line: three numbers
pub data RowLine (row : Row) : List ℕ → Type 0 where
  numbers : {c d t : List ℕ} → NumberField row.C c → NumberField row.D d → NumberField row.T t → RowLine row (joined (c ∷ d ∷ t ∷ []))

-- a line end: LF or CR LF
pub data LineEnd : List ℕ → Type 0 where
  LF_alone : LineEnd (LF ∷ [])
  CR_LF : LineEnd (CR ∷ LF ∷ [])

-- what stands behind a line, in front of other lines: its end, which may be missing where there are none
pub data Behind : List ℕ → List ℕ → Type 0 where
  line_end : (others : List ℕ) {end : List ℕ} → LineEnd end → Behind others (end ++ others)
  end_of_text : Behind [] []

-- a line for each row
pub data RowLines : List Row → List ℕ → Type 0 where
  no_rows : RowLines [] []
  with_this_row : {row : Row} {line others rest : List ℕ} {rows : List Row} → RowLine row line → Behind others rest → RowLines rows others → RowLines (row ∷ rows) (line ++ rest)

-- A TEXT THAT IS A TABLE'S ROWS: the header's line, then theirs
pub data Written : List Row → List ℕ → Type 0 where
  written : {line others rest : List ℕ} {rows : List Row} → HeaderLine line → Behind others rest → RowLines rows others → Written rows (line ++ rest)

-- a line of the form, by its number: line 1 is the header, every other line is a row
abbrev pub OfTheForm : ℕ → List ℕ → Type 0
OfTheForm zero line = ⊥
OfTheForm (suc zero) line = HeaderLine line
OfTheForm (suc (suc others)) line = (row : Row) × RowLine row line

-- the line of a text at a place, from 0; it is empty where there is none
abbrev pub line_at : List ℕ → ℕ → List ℕ
line_at text place = get_or (lines_of text) place []

-- the number of the first line that is not of the form
pub record FirstNotOfTheForm (text : List ℕ) (number : ℕ) : Type 0 where
  pub earlier_are : (place : ℕ) → suc place < number → OfTheForm (suc place) (line_at text place)
  pub it_is_not : OfTheForm number (line_at text (number - 1)) → ⊥
