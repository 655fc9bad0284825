-- Bytes written behind those that stand at the front of a text, and what such writes come to, one behind another.
use mathlib.Core.Path.{◌≡◌}
use Prim.Native.Nat.{ℕ, ◌+◌, ◌^◌, ◌≤◌, ◌<◌}
use native.Mathlib.Omega.{arith}
use mathlib.Core.List.{List, [], ◌∷◌, ◌++◌, append_assoc, append-nil}
use lib.ListN.{length, get_or}
use Rattle.std.specs.Fmt.{decimal as of_library}
use Rattle.placement.specs.Figures.{Figures}
use Rattle.listing.specs.Listing.{ascii, header_line, decimal, row_line, row_lines, system_allowance, listing, refusal}
use Rattle.listing.proofs.Decimal.{decimal_same}
use Rattle.listing.proofs.RowLines.{lines_from, lines_from_row, no_lines_left}

-- digits as the library has them, and one byte behind them
pub number_written : {one two : List ℕ} (front : List ℕ) (n behind : ℕ) → n < 2 ^ 32 → one ≡ front ++ of_library n → two ≡ one ++ (behind ∷ []) → two ≡ front ++ (decimal n ++ (behind ∷ []))
number_written front n behind small digits last = rw (last, digits, decimal_same n (omega arith), append_assoc)

module _ {one two three four : List ℕ} where
  -- the line of a row
  pub row_written : (front : List ℕ) (number : ℕ) (figures : Figures)
      → one ≡ front ++ (decimal number ++ (32 ∷ []))
      → two ≡ one ++ (decimal figures.core ++ (32 ∷ []))
      → three ≡ two ++ (decimal figures.response ++ (32 ∷ []))
      → four ≡ three ++ (decimal figures.allowance ++ (10 ∷ []))
      → four ≡ front ++ row_line number figures
  unfolding row_line
  row_written front number figures w x y z = simp (z, y, x, w, append_assoc)

  -- the listing
  pub listing_written : (front : List ℕ) (all : List Figures)
      → one ≡ front ++ header_line
      → two ≡ one ++ row_lines 1 all
      → three ≡ two ++ ascii "system "
      → four ≡ three ++ (decimal (system_allowance all) ++ (10 ∷ []))
      → four ≡ front ++ listing all
  unfolding listing
  listing_written front all w x y z = simp (z, y, x, w, append_assoc)

  -- the line of a refusal
  pub refusal_written : (front : List ℕ) (number row : ℕ)
      → one ≡ front ++ ascii "refused "
      → two ≡ one ++ (decimal number ++ (32 ∷ []))
      → three ≡ two ++ ascii "row "
      → four ≡ three ++ (decimal row ++ (10 ∷ []))
      → four ≡ front ++ refusal number row
  unfolding refusal ascii
  refusal_written front number row w x y z = simp (z, y, x, w, append_assoc)

-- where lines stand written and a line and more are left of the whole, the line written leaves the rest
pub one_line_more : (front line rest : List ℕ) {whole next : List ℕ} → front ++ (line ++ rest) ≡ whole → next ≡ front ++ line → next ++ rest ≡ whole
one_line_more front line rest left is-next = rw (is-next, append_assoc) left

-- the lines of the rows, where those before row i stand written and those from row i on are left
module _ (cores responses allowances front : List ℕ) (i : ℕ) {whole : List ℕ} (left : front ++ lines_from cores responses allowances i ≡ whole) where
  -- one row more
  pub one_row_more : i < length cores → i < length responses → i < length allowances
      → {next : List ℕ} → next ≡ front ++ row_line (i + 1) (record { core = get_or cores i 0; response = get_or responses i 0; allowance = get_or allowances i 0 })
      → next ++ lines_from cores responses allowances (i + 1) ≡ whole
  one_row_more in-cores in-responses in-allowances = one_line_more front _ _ (rw (lines_from_row cores responses allowances i in-cores in-responses in-allowances) at left)

  -- past the last row all are written
  pub rows_written : length cores ≤ i → front ≡ whole
  rows_written past = rw (no_lines_left cores responses allowances i past, append-nil) at left
