-- EVERY TEXT OF THE GRAMMAR IS READ: it is the rows that it was written for.
use mathlib.Core.Path.{◌≡◌, refl, sym, subst}
use Prim.Native.Nat.{ℕ, suc, ◌≤◌}
use native.Mathlib.Omega.{arith}
use mathlib.Core.Bool.{true}
use mathlib.Core.List.{List, [], ◌∷◌, ◌++◌}
use mathlib.Core.Option.{some}
use lib.Dec.{T, leb, leb→le}
use lib.ListN.{length, length-append}
use Rattle.theory.specs.Row.{Row}
use Rattle.theory.specs.Gather.{All, every}
use Rattle.theory.proofs.Each.{all_map, every_all}
use Rattle.listing.specs.Listing.{ascii}
use Rattle.texts.specs.Text.{comma, lines_of, fields_of, row_in, names, hold, of_rows, with_row, rows_from, headed, text_of}
use Rattle.texts.specs.Forms.{joined, HeaderLine, header, RowLine, numbers, RowLines, no_rows, with_this_row, Written, written}
use Rattle.texts.proofs.Lines.{Ordinary, plain_ordinary}
use Rattle.texts.proofs.Whole.{InLine, line_in_front}
use Rattle.texts.proofs.Joined.{OrdinaryFields, joined_in_line, joined_read}
use Rattle.texts.proofs.ThreeFields.{three_numbers_row, no_parts, two, names_held}
use Rattle.texts.proofs.Fields.{field_holds, field_ordinary, number_field_read, number_field_ordinary}

-- a name is of letters, which are a field's own
pub name_ordinary : (name : List ℕ) → T (every (leb 97) name) → All Ordinary name
name_ordinary name letters = plain_ordinary name (all_map name (λ byte letter. let from-a = leb→le 97 byte letter in omega arith) (every_all (leb 97) name letters))

-- a line, with what its fields are: its bytes are a line's own, and there are some
pub record IsLine (Right : List (List ℕ) → Type 0) (line : List ℕ) : Type 0 where
  pub own : All InLine line
  pub not_empty : 1 ≤ length line
  pub right : Right (fields_of line)

three_fields_line :
    (Right : List (List ℕ) → Type 0) (first second third : List ℕ) → OrdinaryFields (first ∷ (second ∷ (third ∷ []))) → Right (first ∷ (second ∷ (third ∷ [])))
    → IsLine Right (joined (first ∷ (second ∷ (third ∷ []))))
unfolding joined
three_fields_line Right first second third own right = record {
  own = joined_in_line (first ∷ (second ∷ (third ∷ []))) own;
  not_empty = omega (arith, length-append first (comma ∷ (second ++ (comma ∷ third))));
  right = subst Right (sym (joined_read first (second ∷ (third ∷ [])) own)) right;
}

-- the header's line is read as the header
pub header_read : {line : List ℕ} → HeaderLine line → IsLine (λ fields. hold fields names ≡ true) line
unfolding names ascii every
header_read (header {wcet} {deadline} {period} w d p) =
    three_fields_line (λ fields. hold fields names ≡ true) wcet deadline period
    (field_ordinary (name_ordinary (ascii "wcet") tt) w, (field_ordinary (name_ordinary (ascii "deadline") tt) d, (field_ordinary (name_ordinary (ascii "period") tt) p, tt)))
    (names_held (two (field_holds refl w) (two (field_holds refl d) (two (field_holds refl p) no_parts))))

-- a row's line is read as the row
pub row_read : {row : Row} {line : List ℕ} → RowLine row line → IsLine (λ fields. row_in fields ≡ some row) line
row_read {row} (numbers {c} {d} {t} is_c is_d is_t) =
    three_fields_line (λ fields. row_in fields ≡ some row) c d t (number_field_ordinary is_c, (number_field_ordinary is_d, (number_field_ordinary is_t, tt)))
    (three_numbers_row refl (number_field_read is_c) (number_field_read is_d) (number_field_read is_t))

-- the lines of rows, numbered from any number on, are read as them
pub row_lines_read : {rows : List Row} {text : List ℕ} (number : ℕ) → RowLines rows text → rows_from number (lines_of text) ≡ of_rows rows
unfolding lines_of rows_from with_row
row_lines_read number no_rows = refl
row_lines_read number (with_this_row {row} {line} {others} {rest} {rows} is-line behind is-others) =
    let first = row_read is-line in
    rw (line_in_front line first.own first.not_empty behind, first.right, rows_from, row_lines_read (suc number) is-others)

-- THE FORM
pub written_read : {rows : List Row} {text : List ℕ} → Written rows text → text_of text ≡ of_rows rows
unfolding text_of headed
written_read (written {line} {others} {rest} {rows} is-header behind is-rows) =
    let first = header_read is-header in
    rw (line_in_front line first.own first.not_empty behind, first.right, headed) (row_lines_read 2 is-rows)
