-- Fields with commas between them are a line, and its fields; a line that is written, and its first three columns.
use mathlib.Core.Path.{◌≡◌, ap, ◌∙◌}
use Prim.Native.Nat.{ℕ}
use native.Mathlib.Omega.{arith}
use mathlib.Core.List.{List, [], ◌∷◌, ◌++◌, flat_map, append_assoc}
use lib.ListN.{take}
use Rattle.theory.specs.Gather.{All}
use Rattle.theory.proofs.Each.{all_append}
use Rattle.texts.specs.Text.{LF, CR, comma, lines_of, fields_of}
use Rattle.texts.specs.Columns.{line_of, first_columns}
use Rattle.texts.specs.Forms.{joined, CR_LF}
use Rattle.texts.proofs.Lines.{Ordinary}
use Rattle.texts.proofs.Whole.{InLine, field_in_line, ended_line_in_front, field_in_front, last_field}

-- the bytes of each are a field's own
abbrev pub OrdinaryFields : List (List ℕ) → Type 0
OrdinaryFields [] = Unit {0}
OrdinaryFields (field ∷ fields) = All Ordinary field × OrdinaryFields fields

-- then those of the line are a line's own
pub joined_in_line : (fields : List (List ℕ)) → OrdinaryFields fields → All InLine (joined fields)
unfolding joined
joined_in_line [] own = tt
joined_in_line (field ∷ []) own = field_in_line field own.0
joined_in_line (field ∷ (next ∷ fields)) own =
    all_append InLine field (comma ∷ joined (next ∷ fields)) (field_in_line field own.0) (record { no_LF = omega arith; no_CR = omega arith }, joined_in_line (next ∷ fields) own.1)

-- and the fields are those of the line
pub joined_read : (field : List ℕ) (fields : List (List ℕ)) → OrdinaryFields (field ∷ fields) → fields_of (joined (field ∷ fields)) ≡ field ∷ fields
unfolding joined
joined_read field [] own = last_field field own.0
joined_read field (next ∷ fields) own = field_in_front field (joined (next ∷ fields)) own.0 ∙ ap (λ others. field ∷ others) (joined_read next fields own.1)

-- a line that is written, and others: its fields, CR LF and those
pub line_of_lem : (fields : List (List ℕ)) (text : List ℕ) → line_of fields ++ text ≡ joined fields ++ (CR ∷ (LF ∷ text))
unfolding line_of
line_of_lem fields text = append_assoc (joined fields) (CR ∷ (LF ∷ [])) text

-- the lines of a text with such a line in front
pub line_of_read : (fields : List (List ℕ)) (text : List ℕ) → OrdinaryFields fields → lines_of (line_of fields ++ text) ≡ joined fields ∷ lines_of text
line_of_read fields text own = ap lines_of (line_of_lem fields text) ∙ ended_line_in_front (joined fields) text (joined_in_line fields own) CR_LF

-- and its first three columns
pub first_columns_line : (field : List ℕ) (fields : List (List ℕ)) (text : List ℕ) → OrdinaryFields (field ∷ fields)
    → first_columns (line_of (field ∷ fields) ++ text) ≡ line_of (take 3 (field ∷ fields)) ++ first_columns text
unfolding first_columns flat_map
first_columns_line field fields text own = rw (line_of_read (field ∷ fields) text own, joined_read field fields own)
