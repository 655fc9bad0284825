-- The lines of the rows from a row on.
use mathlib.Core.Path.{◌≡◌}
use Prim.Native.Nat.{ℕ, suc, ◌+◌, ◌≤◌, ◌<◌}
use native.Mathlib.Numerals.{add-one}
use mathlib.Core.List.{List, [], ◌++◌}
use lib.ListN.{length, get_or, drop, drop_of_length-le}
use lib.Seq.{drop-cons}
use Rattle.placement.specs.Figures.{figures_from}
use Rattle.listing.specs.Listing.{row_line, row_lines}

module _ (cores responses allowances : List ℕ) (i : ℕ) where
  abbrev pub lines_from : List ℕ
  lines_from = row_lines (i + 1) (figures_from (drop i cores) (drop i responses) (drop i allowances))

-- they are its line, and the lines from the next row on
pub lines_from_row : (cores responses allowances : List ℕ) (i : ℕ) → i < length cores → i < length responses → i < length allowances
    → lines_from cores responses allowances i
    ≡ row_line (i + 1) (record { core = get_or cores i 0; response = get_or responses i 0; allowance = get_or allowances i 0 }) ++ lines_from cores responses allowances (i + 1)
unfolding row_lines figures_from
lines_from_row cores responses allowances i in-cores in-responses in-allowances =
    rw (add-one i, add-one (suc i), drop-cons cores i 0, drop-cons responses i 0, drop-cons allowances i 0, figures_from, row_lines)

-- past the last row there are none
pub no_lines_left : (cores responses allowances : List ℕ) (i : ℕ) → length cores ≤ i → lines_from cores responses allowances i ≡ []
unfolding row_lines figures_from
no_lines_left cores responses allowances i past = rw (drop_of_length-le cores past, figures_from, row_lines)
