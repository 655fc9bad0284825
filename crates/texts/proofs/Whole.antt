-- A whole line in front of others, and a whole field in front of others in its line.
use mathlib.Core.Path.{◌≡◌, refl, ap, ◌∙◌}
use Prim.Native.Nat.{ℕ, ◌≤◌}
use native.Mathlib.Omega.{arith}
use mathlib.Core.List.{List, [], ◌∷◌, ◌++◌, append-nil}
use lib.ListN.{length}
use Rattle.theory.specs.Gather.{All}
use Rattle.theory.proofs.Each.{all_map}
use Rattle.texts.specs.Text.{LF, CR, comma, in_front, lines_of, fields_of}
use Rattle.texts.specs.Forms.{LineEnd, LF_alone, CR_LF, Behind, line_end, end_of_text}
use Rattle.texts.proofs.Lines.{Ordinary, stays_in_line, stays_in_field}

-- a byte that is a line's own: of no line end
pub record InLine (byte : ℕ) : Type 0 where
  pub no_LF : byte ≡ LF → ⊥
  pub no_CR : byte ≡ CR → ⊥

-- a byte of a field is one of its line
pub field_in_line : (field : List ℕ) → All Ordinary field → All InLine field
field_in_line field ordinary = all_map field (λ byte own. record { no_LF = own.no_LF; no_CR = own.no_CR }) ordinary

-- a byte of a line in front of its line
in_front_of_line : (byte : ℕ) (text line : List ℕ) (lines : List (List ℕ)) → InLine byte → lines_of text ≡ line ∷ lines → lines_of (byte ∷ text) ≡ (byte ∷ line) ∷ lines
unfolding in_front
in_front_of_line byte text line lines own behind = stays_in_line byte text own.no_LF (λ is-CR. absurd (own.no_CR is-CR)) ∙ ap (in_front byte) behind

-- a line in front of the end of an empty one
before_end : (line text : List ℕ) (lines : List (List ℕ)) → All InLine line → lines_of text ≡ [] ∷ lines → lines_of (line ++ text) ≡ line ∷ lines
before_end [] text lines own ends = ends
before_end (byte ∷ line) text lines own ends = in_front_of_line byte (line ++ text) line lines own.0 (before_end line text lines own.1 ends)

-- a line with nothing behind it
last_line : (byte : ℕ) (line : List ℕ) → All InLine (byte ∷ line) → lines_of (byte ∷ line) ≡ (byte ∷ line) ∷ []
unfolding lines_of in_front
last_line byte [] own = stays_in_line byte [] own.0.no_LF (λ is-CR. refl)
last_line byte (next ∷ line) own = in_front_of_line byte (next ∷ line) (next ∷ line) [] own.0 (last_line next line own.1)

-- a line and its end
pub ended_line_in_front : {end : List ℕ} (line others : List ℕ) → All InLine line → LineEnd end → lines_of (line ++ (end ++ others)) ≡ line ∷ lines_of others
unfolding lines_of
ended_line_in_front line others own LF_alone = before_end line (LF ∷ others) (lines_of others) own refl
ended_line_in_front line others own CR_LF = before_end line (CR ∷ (LF ∷ others)) (lines_of others) own refl

-- A LINE IN FRONT OF OTHERS, whatever stands behind it as its end
pub line_in_front : {others rest : List ℕ} (line : List ℕ) → All InLine line → 1 ≤ length line → Behind others rest → lines_of (line ++ rest) ≡ line ∷ lines_of others
unfolding lines_of
line_in_front line own some (line_end others end) = ended_line_in_front line others own end
line_in_front [] own some end_of_text = absurd (omega arith)
line_in_front (byte ∷ line) own some end_of_text = rw append-nil (last_line byte line own)

-- A FIELD IN FRONT OF OTHERS
pub field_in_front : (field line : List ℕ) → All Ordinary field → fields_of (field ++ (comma ∷ line)) ≡ field ∷ fields_of line
unfolding fields_of in_front
field_in_front [] line ordinary = refl
field_in_front (byte ∷ field) line ordinary =
    stays_in_field byte (field ++ (comma ∷ line)) ordinary.0.no_comma ∙ ap (in_front byte) (field_in_front field line ordinary.1)

-- the last field of a line
pub last_field : (field : List ℕ) → All Ordinary field → fields_of field ≡ field ∷ []
unfolding fields_of in_front
last_field [] ordinary = refl
last_field (byte ∷ field) ordinary = stays_in_field byte field ordinary.0.no_comma ∙ ap (in_front byte) (last_field field ordinary.1)
