-- The text that is written: the table's three columns and three more, plain fields and CR LF throughout; and its first three columns.
use Rattle.std.specs.Prelude.{ℕ, take}
use mathlib.Core.List.{List, [], ◌∷◌, ◌++◌, map, flat_map}
use Rattle.theory.specs.Row.{Row}
use Rattle.placement.specs.Figures.{Figures}
use Rattle.listing.specs.Listing.{ascii, decimal}
use Rattle.texts.specs.Text.{LF, CR, lines_of, fields_of, names}
use Rattle.texts.specs.Forms.{joined}

-- a line of fields: commas between them, CR LF behind
unfoldable pub line_of : List (List ℕ) → List ℕ
line_of fields = joined fields ++ (CR ∷ LF ∷ [])

-- the names of the header that is written
unfoldable pub all_names : List (List ℕ)
all_names = names ++ (ascii "core" ∷ ascii "response" ∷ ascii "allowance" ∷ [])

-- the line of a row and its figures: six numbers with no leading zeros
unfoldable pub certified_line : Row → Figures → List ℕ
certified_line row figures = line_of (map decimal (row.C ∷ row.D ∷ row.T ∷ figures.core ∷ figures.response ∷ figures.allowance ∷ []))

-- a line for each row in table order
unfoldable pub certified_lines : List Row → List Figures → List ℕ
certified_lines [] all = []
certified_lines (row ∷ rows) [] = []
certified_lines (row ∷ rows) (figures ∷ all) = certified_line row figures ++ certified_lines rows all

-- the text of a certified table
unfoldable pub certified_text : List Row → List Figures → List ℕ
certified_text rows all = line_of all_names ++ certified_lines rows all

-- the first three columns of a text
unfoldable pub first_columns : List ℕ → List ℕ
first_columns text = flat_map (λ line. line_of (take 3 (fields_of line))) (lines_of text)
