-- What a text is: RFC 4180, cut down to a header and rows of three numbers.
use Rattle.std.specs.Prelude.{ℕ, suc, ◌+◌, ◌-◌, ◌*◌, Bool, true, false, ◌&&◌, List, [], ◌∷◌, leb, eqb, length, get_or, take}
use Rattle.std.proofs.Math.Option.{Option, none, some}
use Rattle.theory.specs.Row.{Row}
use Rattle.listing.specs.Listing.{ascii}

-- the bytes that have a meaning
abbrev pub LF : ℕ
LF = 10

abbrev pub CR : ℕ
CR = 13

abbrev pub quote : ℕ
quote = 34

abbrev pub comma : ℕ
comma = 44

-- a digit, 0 to 9
abbrev pub is_digit : ℕ → Bool
is_digit byte = leb 48 byte && leb byte 57

-- whether a byte comes first
abbrev pub begins_with : ℕ → List ℕ → Bool
begins_with byte [] = false
begins_with byte (first ∷ others) = eqb first byte

-- a byte put in front of the first part; where there is none, a part of its own
unfoldable pub in_front : ℕ → List (List ℕ) → List (List ℕ)
in_front byte [] = (byte ∷ []) ∷ []
in_front byte (part ∷ parts) = (byte ∷ part) ∷ parts

-- the lines of a text: each ends in LF or in CR LF, the last one may do without; a CR that is not before an LF is a byte of its line. It ends inside quotes too:
-- a quoted field that is cut there holds a quote, as no number and no name does, so the line where it begins is not of the form.
unfoldable pub lines_of : List ℕ → List (List ℕ)
lines_of [] = []
lines_of (byte ∷ text) =
    elim (eqb byte LF) [
      | true ↦ [] ∷ lines_of text
      | false ↦ elim (eqb byte CR && begins_with LF text) [ true ↦ lines_of text | false ↦ in_front byte (lines_of text) ]
    ]

-- the fields of a line: commas stand between them, inside quotes too, where the same is true
unfoldable pub fields_of : List ℕ → List (List ℕ)
fields_of [] = [] ∷ []
fields_of (byte ∷ line) = elim (eqb byte comma) [ true ↦ [] ∷ fields_of line | false ↦ in_front byte (fields_of line) ]

-- what a field holds: what stands between its quotes where it begins and ends with one, else all of it. One quote alone is not both:
-- behind it stands nothing, where the last place is 0 - 1 = 0 and the byte there counts as 0.
unfoldable pub held : List ℕ → List ℕ
held [] = []
held (byte ∷ field) =
    let last = length field - 1 in
    elim (eqb byte quote && eqb (get_or field last 0) quote) [ true ↦ take last field | false ↦ byte ∷ field ]

-- the number that decimal digits are, behind those that made `so_far`: it has no bound; none where a byte is no digit
unfoldable pub number_from : ℕ → List ℕ → Option ℕ
number_from so_far [] = some so_far
number_from so_far (byte ∷ bytes) = elim (is_digit byte) [ true ↦ number_from (so_far * 10 + (byte - 48)) bytes | false ↦ none ]

-- the number that bytes are: digits, one or more
unfoldable pub number_in : List ℕ → Option ℕ
number_in [] = none
number_in (byte ∷ bytes) = number_from 0 (byte ∷ bytes)

-- the row that three numbers are, where there are three
unfoldable pub row_from : Option ℕ → Option ℕ → Option ℕ → Option Row
row_from none d t = none
row_from (some c) none t = none
row_from (some c) (some d) none = none
row_from (some c) (some d) (some t) = some (record { C = c; D = d; T = t })

-- the row that fields hold: three, each a number
unfoldable pub row_in : List (List ℕ) → Option Row
row_in [] = none
row_in (c ∷ []) = none
row_in (c ∷ (d ∷ [])) = none
row_in (c ∷ (d ∷ (t ∷ []))) = row_from (number_in (held c)) (number_in (held d)) (number_in (held t))
row_in (c ∷ (d ∷ (t ∷ (more ∷ fields)))) = none

-- the names of the header
unfoldable pub names : List (List ℕ)
names = ascii "wcet" ∷ ascii "deadline" ∷ ascii "period" ∷ []

-- whether two byte strings are the same
unfoldable pub same_bytes : List ℕ → List ℕ → Bool
same_bytes [] [] = true
same_bytes [] (byte ∷ bytes) = false
same_bytes (byte ∷ bytes) [] = false
same_bytes (byte ∷ bytes) (other ∷ others) = eqb byte other && same_bytes bytes others

-- whether fields hold names, one each
unfoldable pub hold : List (List ℕ) → List (List ℕ) → Bool
hold [] [] = true
hold [] (name ∷ others) = false
hold (field ∷ fields) [] = false
hold (field ∷ fields) (name ∷ others) = same_bytes (held field) name && hold fields others

-- a text is the rows of a table, or its first line that is not of the form has a number; the header is line 1
pub data Text : Type 0 where
  of_rows : List Row → Text
  not_of_the_form : ℕ → Text

-- a row in front of the others
unfoldable pub with_row : Row → Text → Text
with_row row (of_rows others) = of_rows (row ∷ others)
with_row row (not_of_the_form line) = not_of_the_form line

-- what lines are behind the header, the first of which has a number: one row each
unfoldable pub rows_from : ℕ → List (List ℕ) → Text
rows_from number [] = of_rows []
rows_from number (line ∷ lines) = elim (row_in (fields_of line)) [ some row ↦ with_row row (rows_from (suc number) lines) | none ↦ not_of_the_form number ]

-- what lines are: the header, then rows
unfoldable pub headed : List (List ℕ) → Text
headed [] = not_of_the_form 1
headed (line ∷ lines) = elim (hold (fields_of line) names) [ true ↦ rows_from 2 lines | false ↦ not_of_the_form 1 ]

-- what a text is
unfoldable pub text_of : List ℕ → Text
text_of text = headed (lines_of text)
