-- Versions of the certificate of a text that its promise shuts out: document 02, request 2. A version is told apart by one or two texts whose answer is known.
use mathlib.Core.Path.{◌≡◌, refl, sym, ap, ◌∙◌}
use Prim.Native.Nat.{ℕ, suc, ◌%◌, ◌≤◌}
use mathlib.Core.List.{List, [], ◌∷◌, ◌++◌, map}
use native.Mathlib.Omega.{arith}
use lib.Dec.{T}
use lib.ListN.{length, replicate}
use Rattle.theory.specs.Returned.{Returned, returned}
use Rattle.theory.specs.Row.{Row}
use Rattle.theory.specs.Gather.{All, up_from, keep, sum, every, insert, sort, best}
use Rattle.theory.specs.Rank.{rivals, levels}
use Rattle.theory.specs.Response.{ceil, demand, load, climb, outcome, on_time}
use Rattle.theory.specs.Points.{last_multiple, walk, points, slack, floor_div, times, quotient, bound, point_allowance, allowance, core_allowance}
use Rattle.placement.specs.Core.{Table, core_rows, place_on_core}
use Rattle.placement.specs.Order.{taken}
use Rattle.placement.specs.Choice.{allowance_fit}
use Rattle.placement.specs.Computed.{takes, candidate_at, takers, chosen_of, step_of, run, figures_of, certificate_of, certificate}
use Rattle.placement.proofs.Fit.{allowance_fit_is_rule}
use Rattle.records.specs.Reading.{table, refused}
use Rattle.listing.specs.Listing.{ascii, digits_before, decimal}
use Rattle.texts.specs.Text.{LF, CR, in_front, lines_of, fields_of, held, number_from, number_in, row_from, row_in, names, same_bytes, hold, of_rows, not_of_the_form, with_row, rows_from, headed, text_of}
use Rattle.texts.specs.Table.{judged, table_from, in_rows_place, on_cores, read_text}
use Rattle.texts.specs.Forms.{joined}
use Rattle.texts.specs.Columns.{line_of, all_names, certified_line, certified_lines, certified_text}
use Rattle.texts.proofs.Whole.{InLine}
use Rattle.texts.proofs.Ends.{EndsIn, last_byte}
use Rattle.service.specs.Text.{TextAnswered}
use Rattle.service.proofs.Accepted.{numbers_differ}
use Rattle.service.proofs.Text.{text_answered_unique}
use Rattle.sheets.specs.Sheets.{text_accepted, text_refused, row, under_header, text_of_sheet_four}
use Rattle.sheets.proofs.Test.{same_list, is_set, is_table, passes}
use Rattle.sheets.proofs.Sheets.{sheet_holds}

-- a row with its numbers modulo 2^32
abbrev pub modulo32 : Row → Row
modulo32 r = record { C = r.C % 4_294_967_296; D = r.D % 4_294_967_296; T = r.T % 4_294_967_296 }

-- a header with LF alone, and lines behind it
abbrev header_LF : List ℕ → List ℕ
header_LF lines = ascii "wcet,deadline,period" ++ (LF ∷ lines)

-- the row 5/5/5 as a text, and what is written for it
abbrev fives : List ℕ
fives = under_header (ascii "5,5,5")

abbrev fives_written : List ℕ
fives_written = ascii "wcet,deadline,period,core,response,allowance\r\n5,5,5,1,5,0\r\n"

-- the same with a number that is 5 modulo 2^32
abbrev beyond : List ℕ
beyond = under_header (ascii "4294967301,5,5")

-- the table of sheet 4
abbrev sheet_four : Table
sheet_four = record { cores = 2; rows = row 6 10 10 ∷ row 4 10 10 ∷ row 4 10 10 ∷ row 3 10 10 ∷ row 3 10 10 ∷ [] }

-- what these and others come to, computed
known : T (passes (text_accepted 1 fives fives_written))
    × T (passes (text_accepted 1 (header_LF (ascii "5,5,5")) fives_written))
    × T (passes (text_refused 1 beyond 4 1))
    × T (passes (text_refused 1 (under_header (ascii "2,1,1\n1,1\n")) 9 3))
    × T (passes (text_refused 1 (under_header (ascii "1,,2\n")) 9 2))
    × T (passes (text_refused 1 (under_header []) 3 0))
    × T (passes (text_refused 2 text_of_sheet_four 6 5))
unfolding row under_header text_of_sheet_four passes same_list is_set is_table up_from keep sum every insert sort best rivals levels ceil demand load climb outcome on_time last_multiple walk points slack floor_div times quotient bound point_allowance allowance core_allowance core_rows place_on_core taken takes candidate_at takers chosen_of step_of run figures_of certificate_of certificate ascii digits_before decimal in_front lines_of fields_of held number_from number_in row_from row_in names same_bytes hold with_row rows_from headed text_of judged table_from in_rows_place on_cores read_text joined line_of all_names certified_line certified_lines certified_text
known = (tt, tt, tt, tt, tt, tt, tt)

-- what they are as texts
texts : (text_of fives ≡ of_rows (row 5 5 5 ∷ []))
    × (text_of beyond ≡ of_rows (row 4294967301 5 5 ∷ []))
    × (text_of (under_header (ascii "1,,2\n")) ≡ not_of_the_form 2)
    × (read_text 1 (under_header (ascii "2,1,1\n")) ≡ refused 4 1)
    × (read_text 2 text_of_sheet_four ≡ table sheet_four)
unfolding row under_header text_of_sheet_four ascii in_front lines_of fields_of held number_from number_in row_from row_in names same_bytes hold with_row rows_from headed text_of judged table_from on_cores read_text
texts = (refl, refl, refl, refl, refl)

-- a lent byte string that is long enough
abbrev lent : List ℕ
lent = replicate 100 0

-- a version of the certificate of a text that keeps its promise on all cores, texts and lent bytes
module _ (answer : ℕ → List ℕ → List ℕ → Returned) (written : ℕ → List ℕ → List ℕ → ℕ) (after : ℕ → List ℕ → List ℕ → List ℕ)
    (keeps : (cores : ℕ) (text bytes : List ℕ) → TextAnswered allowance_fit cores text bytes (answer cores text bytes) (written cores text bytes) (after cores text bytes)) where
  -- WHERE A TEXT IS KNOWN TO BE REFUSED OR ACCEPTED, SO IT IS
  on_refused : (cores : ℕ) (text : List ℕ) (number row : ℕ) → T (passes (text_refused cores text number row)) → (bytes : List ℕ) → answer cores text bytes ≡ returned number row
  on_refused cores text number row t bytes =
      (text_answered_unique cores text bytes allowance_fit_is_rule (keeps cores text bytes) (sheet_holds (text_refused cores text number row) t bytes)).same_answer

  on_accepted : (cores : ℕ) (text columns : List ℕ) → T (passes (text_accepted cores text columns)) → (bytes : List ℕ) → length columns ≤ length bytes → answer cores text bytes ≡ returned 0 0
  on_accepted cores text columns t bytes long =
      (text_answered_unique cores text bytes allowance_fit_is_rule (keeps cores text bytes) ((sheet_holds (text_accepted cores text columns) t bytes).0 long)).same_answer

  pub numbers_modulo_2^32_are_shut_out :
      ((cores : ℕ) (text reduced bytes : List ℕ) (rows : List Row) → text_of text ≡ of_rows rows → text_of reduced ≡ of_rows (map modulo32 rows) → answer cores text bytes ≡ answer cores reduced bytes)
      → ⊥
  unfolding row ascii
  numbers_modulo_2^32_are_shut_out modulo =
      let same = modulo 1 beyond fives lent (row 4294967301 5 5 ∷ []) texts.1 texts.0 in
      numbers_differ (sym (on_refused 1 beyond 4 1 known.2 lent) ∙ same ∙ on_accepted 1 fives fives_written known.0 lent (omega arith)) (omega arith)

  -- a limit that is broken in front of a line that is not of the form
  pub stopping_at_the_first_fault_is_shut_out :
      ((cores row : ℕ) (front behind bytes : List ℕ) → EndsIn LF front → read_text cores front ≡ refused 4 row → answer cores (front ++ behind) bytes ≡ returned 4 row) → ⊥
  unfolding under_header ascii
  stopping_at_the_first_fault_is_shut_out stops =
      let same = stops 1 1 (under_header (ascii "2,1,1\n")) (ascii "1,1\n") lent (under_header (ascii "2,1,1"), refl) texts.3 in
      numbers_differ (sym same ∙ on_refused 1 (under_header (ascii "2,1,1\n1,1\n")) 9 3 known.3 lent) (omega arith)

  pub leaving_out_the_header_is_shut_out : ((cores line : ℕ) (text bytes : List ℕ) → text_of text ≡ not_of_the_form (suc (suc line)) → answer cores text bytes ≡ returned 9 (suc line)) → ⊥
  leaving_out_the_header_is_shut_out leaves-out =
      let text = under_header (ascii "1,,2\n") in
      let same : returned 9 1 ≡ returned 9 2 = sym (leaves-out 1 0 text lent texts.2) ∙ on_refused 1 text 9 2 known.4 lent in
      let rows : ◌≡◌ {A = ℕ} 1 2 = ap (λ (r : Returned). r.row) same in
      omega arith

  -- an LF with no CR before it
  pub refusing_LF_is_shut_out : ((cores : ℕ) (front behind bytes : List ℕ) → (EndsIn CR front → ⊥) → answer cores (front ++ (LF ∷ behind)) bytes ≡ returned 0 0 → ⊥) → ⊥
  unfolding ascii
  refusing_LF_is_shut_out refuses =
      refuses 1 (ascii "wcet,deadline,period") (ascii "5,5,5") lent (λ ends. let last = last_byte ends in omega arith) (on_accepted 1 (header_LF (ascii "5,5,5")) fives_written known.1 lent (omega arith))

  -- a line behind the last line end
  pub losing_the_last_line_is_shut_out :
      ((cores : ℕ) (front line bytes : List ℕ) → EndsIn LF front → All InLine line → answer cores (front ++ line) bytes ≡ answer cores front bytes) → ⊥
  unfolding under_header ascii
  losing_the_last_line_is_shut_out loses =
      let own : (byte : ℕ) → 14 ≤ byte → InLine byte = λ byte large. record { no_LF = λ e. omega arith; no_CR = λ e. omega arith } in
      let same = loses 1 (under_header []) (ascii "5,5,5") lent (ascii "wcet,deadline,period\r", refl) (own 53 (omega arith), (own 44 (omega arith), (own 53 (omega arith), (own 44 (omega arith), (own 53 (omega arith), tt))))) in
      numbers_differ (sym (on_accepted 1 fives fives_written known.0 lent (omega arith)) ∙ same ∙ on_refused 1 (under_header []) 3 0 known.5 lent) (omega arith)

  -- with nothing lent, 7 for every table
  pub seven_before_six_is_shut_out : ((cores : ℕ) (text : List ℕ) (t : Table) → read_text cores text ≡ table t → answer cores text [] ≡ returned 7 0) → ⊥
  seven_before_six_is_shut_out seven = numbers_differ (sym (seven 2 text_of_sheet_four sheet_four texts.4) ∙ on_refused 2 text_of_sheet_four 6 5 known.6 []) (omega arith)
