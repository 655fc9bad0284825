-- A text by its first line: the header and then rows, or another.
use mathlib.Core.Path.{◌≡◌, refl, ap, ◌∙◌}
use Prim.Native.Nat.{ℕ}
use native.Mathlib.Omega.{arith}
use mathlib.Core.List.{List, [], ◌∷◌}
use Rattle.std.specs.Prelude.{Some, None}
use Rattle.records.specs.Reading.{refused}
use Rattle.texts.specs.Text.{not_of_the_form, lines_of, rows_from, headed, text_of}
use Rattle.texts.specs.Table.{in_rows_place, on_cores, read_text}
use Rattle.texts.proofs.Lines.{some_line}
use Rattle.fields.specs.Found.{IsHeader}
use Rattle.fields.proofs.Left.{shorter}

-- behind the header come the rows
pub header_read : (text rest : List ℕ) → IsHeader text (Some rest) → text_of text ≡ rows_from 2 (lines_of rest)
unfolding text_of headed
header_read [] rest found = absurd (omega (arith, shorter found.2))
header_read (byte ∷ text) rest found = ap headed (some_line byte text) ∙ rw (found.0, headed) (ap (rows_from 2) found.1)

-- without it the text is not of the form at line 1
no_header : (text : List ℕ) → IsHeader text None → text_of text ≡ not_of_the_form 1
unfolding text_of headed lines_of
no_header [] other = refl
no_header (byte ∷ text) other = ap headed (some_line byte text) ∙ rw (other, headed)

pub header_broken : (cores : ℕ) (text : List ℕ) → IsHeader text None → read_text cores text ≡ refused 9 1
unfolding read_text on_cores in_rows_place
header_broken cores text other = ap (on_cores cores) (no_header text other)
