-- One test that computes, for every kind of sheet.
use Prim.Native.Nat.{ℕ, zero, suc, ◌%◌}
use mathlib.Core.Bool.{Bool, true, false, ◌&&◌, ◌||◌, not}
use mathlib.Core.List.{List, [], ◌∷◌, map}
use lib.Dec.{leb, ltb, eqb}
use lib.IntN.{ℤ}
use lib.ListN.{length}
use lib.Signed.{le_z}
use Rattle.theory.specs.Row.{Row, row_at, within_limits}
use Rattle.theory.specs.Gather.{every}
use Rattle.theory.specs.Rank.{places, above}
use Rattle.theory.specs.Response.{in_time, outcome, on_time}
use Rattle.theory.specs.Allowance.{raised}
use Rattle.theory.specs.Points.{points, slack, quotient, bound, allowance}
use Rattle.theory.specs.Utilisation.{work}
use Rattle.placement.specs.Core.{Table}
use Rattle.placement.specs.Order.{taken}
use Rattle.placement.specs.Choice.{allowance_fit}
use Rattle.placement.specs.Figures.{Certificate, certified, no_core_takes}
use Rattle.placement.specs.Computed.{response_of, certificate}
use Rattle.records.specs.Reading.{Reading}
use Rattle.listing.specs.Listing.{listing, refusal}
use Rattle.records.specs.Report.{table_bytes}
use Rattle.texts.specs.Table.{read_text}
use Rattle.texts.specs.Columns.{certified_text}
use Rattle.sheets.specs.Sheets.{Sheet, set_accepted, set_refused, below_one, walk_yields, points_as_set, bound_on, slack_at, quotient_at, order_taken, listed, table_refused, limited_by, why_refused, text_accepted, text_refused, text_tabled}

-- whether two lists are the same
unfoldable pub same_list : List ℕ → List ℕ → Bool
same_list [] [] = true
same_list [] (y ∷ ys) = false
same_list (x ∷ xs) [] = false
same_list (x ∷ xs) (y ∷ ys) = eqb x y && same_list xs ys

-- whether two signed numbers are the same
abbrev pub same_signed : ℤ → ℤ → Bool
same_signed y z = le_z y z && le_z z y

-- whether a number is one of a list
unfoldable pub one_of : List ℕ → ℕ → Bool
one_of [] n = false
one_of (x ∷ xs) n = eqb n x || one_of xs n

-- whether rows are as many as a set may have, each within the limits
unfoldable pub is_set : List Row → Bool
is_set rows = (leb 1 (length rows) && leb (length rows) 24) && every (λ k. within_limits (row_at rows k)) (places rows)

-- whether a table keeps the rules
unfoldable pub is_table : Table → Bool
is_table table = (leb 1 table.cores && leb table.cores 8) && is_set table.rows

-- the listing's text for a certificate
abbrev pub text_of : Certificate → List ℕ
text_of (certified all) = listing all
text_of (no_core_takes i) = refusal 6 (suc i)

-- whether a certificate is the refusal with a number and a row
abbrev pub refuses_with : Certificate → ℕ → ℕ → Bool
refuses_with (certified all) number row = false
refuses_with (no_core_takes i) number row = eqb 6 number && eqb (suc i) row

-- whether the row at a place is the first in rank that misses
unfoldable pub misses_first : List Row → ℕ → Bool
misses_first rows k = ltb k (length rows) && (not (in_time (outcome rows k)) && every (λ h. not (above rows h k) || in_time (outcome rows h)) (places rows))

-- whether a number and a row are refusal 8 with the first row in rank that misses
unfoldable pub refuses_late : List Row → ℕ → ℕ → Bool
refuses_late rows number zero = false
refuses_late rows number (suc k) = eqb 8 number && misses_first rows k

-- whether a number is the first of a list that passes a test
unfoldable pub is_first : (ℕ → Bool) → List ℕ → ℕ → Bool
is_first test [] p = false
is_first test (x ∷ xs) p = elim (test x) [ true ↦ eqb x p | false ↦ is_first test xs p ]

-- whether row k's quotient for row i at a point is its greatest
abbrev pub greatest_at : List Row → ℕ → ℕ → ℕ → Bool
greatest_at rows k i q = same_signed (quotient rows k i q) (bound rows k i)

-- whether a row of a set on time is limited by another at a point, both by their numbers
unfoldable pub limited_at : List Row → ℕ → ℕ → ℕ → Bool
limited_at rows zero limiting p = false
limited_at rows (suc i) zero p = false
limited_at rows (suc i) (suc k) p = on_time rows && (ltb i (length rows) && (misses_first (raised rows i (suc (allowance rows i))) k && is_first (greatest_at rows k i) (points rows k) p))

-- whether the explanation of a row is refused with a number and a row: 10 with row 0 where there is no such row in the set, else 8
unfoldable pub why_is_refused : List Row → ℕ → ℕ → ℕ → Bool
why_is_refused rows zero number row = eqb 10 number && eqb 0 row
why_is_refused rows (suc i) number row = elim (ltb i (length rows)) [ true ↦ refuses_late rows number row | false ↦ eqb 10 number && eqb 0 row ]

-- whether a certificate of rows is written so
abbrev pub written_as : List Row → Certificate → List ℕ → Bool
written_as rows (certified all) written = same_list (certified_text rows all) written
written_as rows (no_core_takes i) written = false

-- whether what a text is as a table has a certificate that is written so
abbrev pub accepted_as : Reading → List ℕ → Bool
accepted_as (Reading.table t) written = is_table t && written_as t.rows (certificate allowance_fit t) written
accepted_as (Reading.refused number row) written = false

-- whether what a text is has these bytes as a table
abbrev pub tabled_as : Reading → List ℕ → Bool
tabled_as (Reading.table t) bytes = same_list (table_bytes t) bytes
tabled_as (Reading.refused number row) bytes = false

-- whether what a text is as a table is refused with a number and a row
abbrev pub refused_as : Reading → ℕ → ℕ → Bool
refused_as (Reading.table t) number row = is_table t && refuses_with (certificate allowance_fit t) number row
refused_as (Reading.refused other-number other_row) number row = eqb other-number number && eqb other_row row

-- THE TEST of a sheet
unfoldable pub passes : Sheet → Bool
passes (set_accepted rows responses allowances) =
    is_set rows && (on_time rows && (same_list (map (λ k. response_of (outcome rows k)) (places rows)) responses && same_list (map (allowance rows) (places rows)) allowances))
passes (set_refused rows number row) = is_set rows && refuses_late rows number row
passes (below_one rows P) = every (λ k. eqb (P % (row_at rows k).T) 0) (places rows) && ltb (work rows P) P
passes (walk_yields rows k times) = same_list (points rows k) times
passes (points_as_set rows k times) = every (one_of times) (points rows k) && every (one_of (points rows k)) times
passes (bound_on rows k i b) = same_signed (bound rows k i) b
passes (slack_at rows k t z) = same_signed (slack rows k t) z
passes (quotient_at rows k i t z) = same_signed (quotient rows k i t) z
passes (order_taken rows order) = same_list (taken rows) order
passes (listed table text) = is_table table && same_list (text_of (certificate allowance_fit table)) text
passes (table_refused table number row) = is_table table && refuses_with (certificate allowance_fit table) number row
passes (limited_by rows row limiting p) = is_set rows && limited_at rows row limiting p
passes (why_refused rows asked number row) = is_set rows && why_is_refused rows asked number row
passes (text_accepted cores text written) = accepted_as (read_text cores text) written
passes (text_refused cores text number row) = refused_as (read_text cores text) number row
passes (text_tabled cores text bytes) = tabled_as (read_text cores text) bytes

-- whether every sheet of a list passes
unfoldable pub each_passes : List Sheet → Bool
each_passes [] = true
each_passes (sheet ∷ others) = passes sheet && each_passes others
