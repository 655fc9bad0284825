-- The lines of a certified table from a row on.
use mathlib.Core.Path.{◌≡◌}
use Prim.Native.Nat.{ℕ, ◌+◌, ◌≤◌, ◌<◌}
use native.Mathlib.Numerals.{add-one}
use mathlib.Core.List.{List, [], ◌++◌}
use lib.ListN.{length, get_or, drop, drop_of_length-le}
use lib.Seq.{drop-cons}
use Rattle.theory.specs.Lists.{rows_of}
use Rattle.placement.specs.Figures.{figures_from}
use Rattle.texts.specs.Columns.{certified_line, certified_lines}

module _ (cs ds ts cores responses allowances : List ℕ) (i : ℕ) where
  abbrev pub certified_lines_from : List ℕ
  certified_lines_from = certified_lines (rows_of (drop i cs) (drop i ds) (drop i ts)) (figures_from (drop i cores) (drop i responses) (drop i allowances))

module _ (cs ds ts cores responses allowances : List ℕ) (i : ℕ) where
  -- they are its line, and the lines from the next row on
  pub certified_lines_from_row : i < length cs → i < length ds → i < length ts → i < length cores → i < length responses → i < length allowances
      → certified_lines_from cs ds ts cores responses allowances i
      ≡ certified_line (record { C = get_or cs i 0; D = get_or ds i 0; T = get_or ts i 0 }) (record { core = get_or cores i 0; response = get_or responses i 0; allowance = get_or allowances i 0 })
      ++ certified_lines_from cs ds ts cores responses allowances (i + 1)
  unfolding certified_lines rows_of figures_from
  certified_lines_from_row in-cs in-ds in-ts in-cores in-responses in-allowances =
      rw (add-one i, drop-cons cs i 0, drop-cons ds i 0, drop-cons ts i 0, drop-cons cores i 0, drop-cons responses i 0, drop-cons allowances i 0, rows_of, figures_from, certified_lines)

  -- past the last row there are none
  pub no_certified_lines_left : length cs ≤ i → certified_lines_from cs ds ts cores responses allowances i ≡ []
  unfolding certified_lines rows_of
  no_certified_lines_left past = rw (drop_of_length-le cs past, rows_of, certified_lines)
