-- For the contracts of the code, which reads a text from the front: what is left of a field, of its line, and of the text. The promises do not speak of it.
use Rattle.std.specs.Prelude.{ℕ, ◌<◌, List, [], ◌∷◌}
use Rattle.std.proofs.Math.Option.{IsSome}
use Rattle.texts.specs.Text.{comma, lines_of, fields_of, number_in}

-- the first part, which is empty where there are none, and the others
abbrev pub first_part : List (List ℕ) → List ℕ
first_part [] = []
first_part (part ∷ parts) = part

abbrev pub other_parts : List (List ℕ) → List (List ℕ)
other_parts [] = []
other_parts (part ∷ parts) = parts

-- the rest of the line, and the lines behind it
abbrev pub rest_of_line : List ℕ → List ℕ
rest_of_line text = first_part (lines_of text)

abbrev pub lines_behind : List ℕ → List (List ℕ)
lines_behind text = other_parts (lines_of text)

-- the rest of the field, and the fields behind it in the line
abbrev pub rest_of_field : List ℕ → List ℕ
rest_of_field text = first_part (fields_of (rest_of_line text))

abbrev pub fields_behind : List ℕ → List (List ℕ)
fields_behind text = other_parts (fields_of (rest_of_line text))

-- a byte above the comma, as letters and digits are: no line end, comma or quote
abbrev pub Plain : ℕ → Type 0
Plain byte = comma < byte

-- bytes that are a number
abbrev pub IsNumber : List ℕ → Type 0
IsNumber bytes = IsSome (number_in bytes)
