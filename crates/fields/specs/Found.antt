-- The fields and lines of a text as the code finds them from the front: what is there, and what is left behind it.
use Rattle.std.specs.Prelude.{◌≡◌, ℕ, ◌≤◌, min, true, false, Option, Some, None, List, [], ◌∷◌, ◌++◌, length}
use Rattle.std.proofs.Math.Option.{none, some}
use Rattle.theory.specs.Row.{Row}
use Rattle.rows.specs.Values.{row_of}
use Rattle.texts.specs.Text.{quote, is_digit, begins_with, lines_of, fields_of, held, number_from, number_in, row_in, names, hold}
use Rattle.texts.specs.Rest.{rest_of_line, lines_behind, rest_of_field, fields_behind, IsNumber}
use Rattle.fields.specs.declared.Number.{Number}
use Rattle.fields.specs.declared.Line.{Line}

-- what the first field holds, and the fields of the first line
abbrev pub held_first : List ℕ → List ℕ
held_first text = held (rest_of_field text)

abbrev pub first_fields : List ℕ → List (List ℕ)
first_fields text = fields_of (rest_of_line text)

-- a number as the code holds it: above a million it is a million and one; a row so held breaks a limit exactly where the row itself does
abbrev pub capped : ℕ → ℕ
capped n = min n 1_000_001

abbrev pub capped_row : Row → Row
capped_row row = record { C = capped row.C; D = capped row.D; T = capped row.T }

-- the quote that opens a field, where there is one
abbrev pub opening : List ℕ → List ℕ
opening text = elim (begins_with quote text) [ true ↦ quote ∷ [] | false ↦ [] ]

-- the end of a text, which is left behind its first bytes, so many at least
pub record LeftBehind (least : ℕ) (text rest : List ℕ) : Type 0 where
  pub front : List ℕ
  pub splits : text ≡ front ++ rest
  pub at_least : least ≤ length front

-- digits at the front, what is left behind them, and their number as the code holds it
pub record DigitsTo (text : List ℕ) (number : ℕ) (rest : List ℕ) : Type 0 where
  pub bytes : List ℕ
  pub value : ℕ
  pub splits : text ≡ bytes ++ rest
  pub is_number : number_from 0 bytes ≡ some value
  pub as_held : number ≡ capped value

-- all digits at the front
abbrev pub IsDigits : List ℕ → Number → Type 0
IsDigits text digits = DigitsTo text digits.value digits.rest.now × ((byte : ℕ) (others : List ℕ) → digits.rest.now ≡ byte ∷ others → is_digit byte ≡ false)

-- what is left behind the first field, by what is left behind its content
abbrev pub IsFieldEnd : List ℕ → List ℕ → Option (List ℕ) → Type 0
IsFieldEnd text end (Some rest) = end ≡ opening text ++ rest
IsFieldEnd text end None = (begins_with quote text ≡ true) × (begins_with quote end ≡ false)

-- the first field holds what is right exactly if it ends where something is left
pub record EndsAt (Right : List ℕ → Type 0) (text rest : List ℕ) : Type 0 where
  pub same_lines : lines_behind text ≡ lines_behind rest
  pub same_fields : fields_behind text ≡ fields_behind rest
  pub right_there : rest_of_field rest ≡ [] → Right (held_first text)
  pub only_there : Right (held_first text) → rest_of_field rest ≡ []
  pub left_behind : LeftBehind 1 text rest

-- the first field does not hold what is right
abbrev pub Wrong : (List ℕ → Type 0) → List ℕ → Type 0
Wrong Right text = Right (held_first text) → ⊥

-- where the first field holds a number, this is it, as the code holds it
abbrev pub FirstNumber : List ℕ → ℕ → Type 0
FirstNumber text n = (m : ℕ) → number_in (held_first text) ≡ some m → n ≡ capped m

-- the first field: a number, or not
abbrev pub IsField : List ℕ → Option Number → Type 0
IsField text (Some number) = EndsAt IsNumber text number.rest.now × FirstNumber text number.value
IsField text None = Wrong IsNumber text

-- bytes that are a name
abbrev pub Named : List ℕ → List ℕ → Type 0
Named name bytes = bytes ≡ name

-- the first field: a name, or not
abbrev pub IsName : List ℕ → List ℕ → Option (List ℕ) → Type 0
IsName name text (Some rest) = EndsAt (Named name) text rest
IsName name text None = Wrong (Named name) text

-- what has to stand behind a field: a comma, or a line end
pub data Behind : Type 0 where
  comma_behind : Behind
  line_end_behind : Behind

-- the fields behind a field, as they have to be: some, or none
abbrev pub Follow : Behind → List (List ℕ) → Type 0
Follow comma_behind fields = fields ≡ [] → ⊥
Follow line_end_behind fields = fields ≡ []

-- the fields and lines behind a comma, or behind a line end
abbrev pub fields_on : Behind → List ℕ → List (List ℕ)
fields_on comma_behind rest = first_fields rest
fields_on line_end_behind rest = []

abbrev pub lines_on : Behind → List ℕ → List (List ℕ)
lines_on comma_behind rest = lines_behind rest
lines_on line_end_behind rest = lines_of rest

-- a comma or a line end at the front, and what is left behind it
pub record Between (behind : Behind) (text rest : List ℕ) : Type 0 where
  pub field_ends : rest_of_field text ≡ []
  pub fields_follow : fields_behind text ≡ fields_on behind rest
  pub lines_follow : lines_behind text ≡ lines_on behind rest
  pub left_behind : LeftBehind 0 text rest

abbrev pub IsBetween : Behind → List ℕ → Option (List ℕ) → Type 0
IsBetween behind text (Some rest) = Between behind text rest
IsBetween behind text None = rest_of_field text ≡ [] → Follow behind (fields_behind text) → ⊥

-- the first field holds what is right, and what has to is behind it
pub record Followed (Right : List ℕ → Type 0) (behind : Behind) (text rest : List ℕ) : Type 0 where
  pub right : Right (held_first text)
  pub fields_follow : fields_behind text ≡ fields_on behind rest
  pub lines_follow : lines_behind text ≡ lines_on behind rest
  pub left_behind : LeftBehind 1 text rest

-- or it is not so
abbrev pub NotFollowed : (List ℕ → Type 0) → Behind → List ℕ → Type 0
NotFollowed Right behind text = Right (held_first text) → Follow behind (fields_behind text) → ⊥

abbrev pub IsFieldThen : Behind → List ℕ → Option Number → Type 0
IsFieldThen behind text (Some number) = Followed IsNumber behind text number.rest.now × FirstNumber text number.value
IsFieldThen behind text None = NotFollowed IsNumber behind text

abbrev pub IsNameThen : Behind → List ℕ → List ℕ → Option (List ℕ) → Type 0
IsNameThen behind name text (Some rest) = Followed (Named name) behind text rest
IsNameThen behind name text None = NotFollowed (Named name) behind text

-- the header, and what is left behind it; or another line
abbrev pub IsHeader : List ℕ → Option (List ℕ) → Type 0
IsHeader text (Some rest) = (hold (first_fields text) names ≡ true) × (lines_behind text ≡ lines_of rest) × LeftBehind 1 text rest
IsHeader text None = hold (first_fields text) names ≡ false

-- the first line: a row, as the code holds it
pub record FirstRow (text : List ℕ) (line : Line) : Type 0 where
  pub row : Row
  pub is_row : row_in (first_fields text) ≡ some row
  pub as_held : row_of line.row ≡ capped_row row
  pub lines_follow : lines_behind text ≡ lines_of line.rest.now
  pub left_behind : LeftBehind 1 text line.rest.now

-- a row, or no row
abbrev pub IsLine : List ℕ → Option Line → Type 0
IsLine text (Some line) = FirstRow text line
IsLine text None = row_in (first_fields text) ≡ none
