-- The records of the first rows, of kind 2 or of kind 3, one row more at a time.
use mathlib.Core.Path.{◌≡◌, refl, sym, ap, ◌∙◌}
use Prim.Native.Nat.{ℕ, ◌+◌, ◌*◌, ◌≤◌, ◌<◌}
use mathlib.Core.List.{List, flat_map}
use native.Mathlib.Omega.{arith}
use lib.ListN.{length, get_or, take}
use lib.Seq.{take_all}
use Rattle.theory.specs.Row.{Row}
use Rattle.theory.proofs.RowsOf.{rows_of_length, row_of_lists}
use Rattle.rows.specs.declared.RowLists.{RowLists}
use Rattle.rows.specs.Values.{rows_listed}
use Rattle.placement.specs.Figures.{Figures, figures_from}
use Rattle.placement.proofs.FiguresFrom.{figures_from_length, figures_from_at}
use Rattle.records.specs.Number.{four_bytes}
use Rattle.records.specs.Report.{row_record, figures_record}
use Rattle.records.proofs.Lengths.{flat_map_length}
use Rattle.numbers.proofs.Written.{written, one_more_written}

-- records of as many bytes each, one for each of a list, of which there are as many as rows
module _ {A : Type 0} (bytes : A → List ℕ) (size : ℕ) (each : (a : A) → length (bytes a) ≡ size) (all : List A) (rows : ℕ) (one_each : length all ≡ rows) where
  records_of_size : length (flat_map bytes all) ≡ size * rows
  records_of_size = flat_map_length bytes size each all ∙ ap (λ (n : ℕ). size * n) one_each

  -- a row's record written behind those of the rows before it
  record_written : (d its : A) (before now after : List ℕ) (at i : ℕ) → i < rows → at ≤ length before → get_or all i d ≡ its
      → now ≡ written before at (flat_map bytes (take i all))
      → after ≡ written now (at + size * i) (bytes its)
      → after ≡ written before at (flat_map bytes (take (i + 1) all))
  record_written d its before now after at i inside fits is now-is after_is =
      after_is ∙ ap (λ (a : A). written now (at + size * i) (bytes a)) (sym is) ∙ one_more_written bytes size each all d before now at i (omega arith) fits now-is

  -- the records of as many rows as there are: all
  records_written : (before now : List ℕ) (at i : ℕ) → i ≡ rows → now ≡ written before at (flat_map bytes (take i all)) → now ≡ written before at (flat_map bytes all)
  records_written before now at i is_all now-is = now-is ∙ ap (λ (list : List A). written before at (flat_map bytes list)) (take_all i all (omega arith))

-- the kind 3 records of the first i rows
abbrev pub first_records : List ℕ → List ℕ → List ℕ → ℕ → List ℕ
first_records cores responses allowances i = flat_map figures_record (take i (figures_from cores responses allowances))

-- the figures of row i, from the three lists
abbrev pub row_figures : List ℕ → List ℕ → List ℕ → ℕ → Figures
row_figures cores responses allowances i = record { core = get_or cores i 0; response = get_or responses i 0; allowance = get_or allowances i 0 }

module _
    (cores responses allowances : List ℕ)
    (as_many_responses : length responses ≡ length cores)
    (as-many-allowances : length allowances ≡ length cores) where
  abbrev all : List Figures
  all = figures_from cores responses allowances

  one_each : length all ≡ length cores
  one_each = figures_from_length cores responses allowances as_many_responses as-many-allowances

  ten_bytes : (figures : Figures) → length (figures_record figures) ≡ 10
  unfolding four_bytes
  ten_bytes figures = refl

  pub records_length : length (flat_map figures_record all) ≡ 10 * length cores
  records_length = records_of_size figures_record 10 ten_bytes all (length cores) one_each

  pub row_written : (before now after : List ℕ) (at i : ℕ) → i < length cores → at ≤ length before
      → now ≡ written before at (first_records cores responses allowances i)
      → after ≡ written now (at + 10 * i) (figures_record (row_figures cores responses allowances i))
      → after ≡ written before at (first_records cores responses allowances (i + 1))
  row_written before now after at i inside fits =
      record_written figures_record 10 ten_bytes all (length cores) one_each _ _ before now after at i inside fits (figures_from_at cores responses allowances as_many_responses as-many-allowances i)

  pub all_written : (before now : List ℕ) (at i : ℕ) → i ≡ length cores
      → now ≡ written before at (first_records cores responses allowances i)
      → now ≡ written before at (flat_map figures_record all)
  all_written = records_written figures_record 10 ten_bytes all (length cores) one_each

module _ (lists : RowLists) where
  abbrev rows : List Row
  rows = rows_listed lists

  rows_each : length rows ≡ length lists.c.now
  rows_each = rows_of_length lists.c.now lists.d.now lists.t.now lists.as_many_deadlines lists.as_many_periods

  thirteen_bytes : (row : Row) → length (row_record row) ≡ 13
  unfolding four_bytes
  thirteen_bytes row = refl

  pub row_records_length : length (flat_map row_record rows) ≡ 13 * length lists.c.now
  row_records_length = records_of_size row_record 13 thirteen_bytes rows (length lists.c.now) rows_each

  pub table_row_written : (before now after : List ℕ) (at i : ℕ) → i < length lists.c.now → at ≤ length before
      → now ≡ written before at (flat_map row_record (take i rows))
      → after ≡ written now (at + 13 * i) (row_record (record { C = get_or lists.c.now i 0; D = get_or lists.d.now i 0; T = get_or lists.t.now i 0 }))
      → after ≡ written before at (flat_map row_record (take (i + 1) rows))
  table_row_written before now after at i inside fits =
      record_written row_record 13 thirteen_bytes rows (length lists.c.now) rows_each _ _ before now after at i inside fits
      (row_of_lists lists.c.now lists.d.now lists.t.now lists.as_many_deadlines lists.as_many_periods i)

  pub table_rows_written : (before now : List ℕ) (at i : ℕ) → i ≡ length lists.c.now → now ≡ written before at (flat_map row_record (take i rows)) → now ≡ written before at (flat_map row_record rows)
  table_rows_written = records_written row_record 13 thirteen_bytes rows (length lists.c.now) rows_each
