-- What the writes of a certified table's text come to, one behind another.
use mathlib.Core.Path.{◌≡◌}
use Prim.Native.Nat.{ℕ, ◌+◌, ◌≤◌, ◌<◌}
use mathlib.Core.List.{List, [], ◌∷◌, ◌++◌, append_assoc, append-nil}
use lib.ListN.{length, get_or}
use Rattle.theory.specs.Row.{Row}
use Rattle.placement.specs.Figures.{Figures}
use Rattle.listing.specs.Listing.{decimal}
use Rattle.texts.specs.Text.{LF, CR, comma}
use Rattle.texts.specs.Forms.{joined}
use Rattle.texts.specs.Columns.{line_of, all_names, certified_line, certified_lines, certified_text}
use Rattle.lines.proofs.Written.{one_line_more}
use Rattle.columns.proofs.CertifiedLines.{certified_lines_from, certified_lines_from_row, no_certified_lines_left}

-- three numbers, commas between them and one byte behind the last
abbrev pub three_numbers : ℕ → ℕ → ℕ → ℕ → List ℕ
three_numbers first second third behind = decimal first ++ (comma ∷ (decimal second ++ (comma ∷ (decimal third ++ (behind ∷ [])))))

module _ {one two three : List ℕ} (front : List ℕ) where
  pub fields_written : (first second third behind : ℕ)
      → one ≡ front ++ (decimal first ++ (comma ∷ []))
      → two ≡ one ++ (decimal second ++ (comma ∷ []))
      → three ≡ two ++ (decimal third ++ (behind ∷ []))
      → three ≡ front ++ three_numbers first second third behind
  fields_written first second third behind w x y = simp (y, x, w, append_assoc)

  -- the line of a row and its figures
  pub line_written : (row : Row) (figures : Figures)
      → one ≡ front ++ three_numbers row.C row.D row.T comma
      → two ≡ one ++ three_numbers figures.core figures.response figures.allowance CR
      → three ≡ two ++ (LF ∷ [])
      → three ≡ front ++ certified_line row figures
  unfolding certified_line joined line_of
  line_written row figures w x y = simp (y, x, w, append_assoc)

-- the lines of the rows, where those before row i stand written and those from row i on are left
module _
    (cs ds ts cores responses allowances front : List ℕ)
    (i : ℕ)
    {whole : List ℕ}
    (left : front ++ certified_lines_from cs ds ts cores responses allowances i ≡ whole) where
  -- one row more
  pub one_row_more : i < length cs → i < length ds → i < length ts → i < length cores → i < length responses → i < length allowances
      → {next : List ℕ}
      → next ≡ front ++ certified_line (record { C = get_or cs i 0; D = get_or ds i 0; T = get_or ts i 0 }) (record { core = get_or cores i 0; response = get_or responses i 0; allowance = get_or allowances i 0 })
      → next ++ certified_lines_from cs ds ts cores responses allowances (i + 1) ≡ whole
  one_row_more in-cs in-ds in-ts in-cores in-responses in-allowances =
      one_line_more front _ _ (rw (certified_lines_from_row cs ds ts cores responses allowances i in-cs in-ds in-ts in-cores in-responses in-allowances) at left)

  -- past the last row all are written
  pub rows_written : length cs ≤ i → front ≡ whole
  rows_written past = rw (no_certified_lines_left cs ds ts cores responses allowances i past, append-nil) at left

-- the header and the lines behind it
pub text_written : {one two : List ℕ} (front : List ℕ) (rows : List Row) (all : List Figures) → one ≡ front ++ line_of all_names → two ≡ one ++ certified_lines rows all → two ≡ front ++ certified_text rows all
unfolding certified_text
text_written front rows all w x = simp (x, w, append_assoc)
