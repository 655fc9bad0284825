-- THE SHEETS HOLD: one computed test over the whole list, and one law that turns the test into what each sheet says.
use mathlib.Core.Path.{◌≡◌, subst, sym}
use Prim.Native.Nat.{◌%◌}
use mathlib.Core.Bool.{◌&&◌}
use mathlib.Core.Logic.{◌⊎◌, inl, inr}
use mathlib.Core.List.Memᴰ
use mathlib.Core.List.{List, [], ◌∷◌, map, Memᴰ, flat_map}
use lib.Dec.{T, ltb, eqb, ltb→lt, eqb→eq}
use Rattle.theory.specs.Row.{row_at}
use Rattle.theory.specs.Gather.{up_from, keep, sum, every, insert, sort, best}
use Rattle.theory.specs.Rank.{places, rivals, levels}
use Rattle.theory.specs.Response.{ceil, demand, load, climb, outcome, on_time}
use Rattle.theory.specs.Points.{last_multiple, walk, points, slack, floor_div, times, quotient, bound, point_allowance, allowance, core_allowance, IsBound}
use Rattle.theory.specs.Utilisation.{work}
use Rattle.theory.proofs.Tests.{and_first, and_second}
use Rattle.theory.proofs.Each.{every_all}
use Rattle.theory.proofs.Member.{all_at}
use Rattle.theory.proofs.Bound.{bound_is}
use Rattle.placement.specs.Core.{core_rows, place_on_core}
use Rattle.placement.specs.Order.{taken}
use Rattle.placement.specs.Choice.{allowance_fit}
use Rattle.placement.specs.Computed.{takes, candidate_at, takers, chosen_of, step_of, run, figures_of, certificate_of, certificate, response_of}
use Rattle.listing.specs.Listing.{ascii, header_line, digits_before, decimal, row_line, row_lines, smallest_allowance, system_allowance, listing, refusal}
use Rattle.records.specs.Number.{four_bytes}
use Rattle.records.specs.Report.{table_records, table_bytes}
use Rattle.texts.specs.Text.{in_front, lines_of, fields_of, held, number_from, number_in, row_from, row_in, names, same_bytes, hold, with_row, rows_from, headed, text_of as text_is}
use Rattle.texts.specs.Table.{judged, table_from, in_rows_place, on_cores, read_text}
use Rattle.texts.specs.Forms.{joined}
use Rattle.texts.specs.Columns.{line_of, all_names, certified_line, certified_lines, certified_text}
use Rattle.sheets.specs.Sheets.{Sheet, set_accepted, set_refused, below_one, walk_yields, points_as_set, bound_on, slack_at, quotient_at, order_taken, listed, table_refused, limited_by, why_refused, text_accepted, text_refused, text_tabled, Holds, sheets}
use Rattle.sheets.proofs.Test.{same_list, one_of, is_set, is_table, text_of, refuses_with, misses_first, refuses_late, is_first, limited_at, why_is_refused, passes, each_passes}
use Rattle.sheets.proofs.Law.{same_list_lem, same_signed_lem, one_of_lem, each_place, accepted_holds, misses_holds}
use Rattle.sheets.proofs.Certificate.{listed_holds, refused_holds}
use Rattle.sheets.proofs.TextCertificate.{text_accepted_holds, text_refused_holds, text_tabled_holds}
use Rattle.sheets.proofs.Explanation.{limited_holds, why_refused_holds}

-- THE LAW
pub sheet_holds : (sheet : Sheet) → T (passes sheet) → Holds sheet
unfolding passes
sheet_holds (set_accepted rows responses allowances) t =
    let same_responses = same_list (map (λ k. response_of (outcome rows k)) (places rows)) responses in
    let same_allowances = same_list (map (allowance rows) (places rows)) allowances in
    let after : T (on_time rows && (same_responses && same_allowances)) = and_second (is_set rows) (on_time rows && (same_responses && same_allowances)) t in
    let figures : T (same_responses && same_allowances) = and_second (on_time rows) (same_responses && same_allowances) after in
    accepted_holds rows (and_first (is_set rows) (on_time rows && (same_responses && same_allowances)) t) responses allowances
    (and_first (on_time rows) (same_responses && same_allowances) after)
    (same_list_lem _ _ (and_first same_responses same_allowances figures))
    (same_list_lem _ _ (and_second same_responses same_allowances figures))
sheet_holds (set_refused rows number row) t =
    misses_holds rows (and_first (is_set rows) (refuses_late rows number row) t) number row (and_second (is_set rows) (refuses_late rows number row) t)
sheet_holds (below_one rows P) t =
    let common = every (λ k. eqb (P % (row_at rows k).T) 0) (places rows) in (
      λ k h. eqb→eq (P % (row_at rows k).T) 0 (each_place (λ x. eqb (P % (row_at rows x).T) 0) rows (and_first common (ltb (work rows P) P) t) k h),
      ltb→lt (work rows P) P (and_second common (ltb (work rows P) P) t),
    )
sheet_holds (walk_yields rows k times) t = same_list_lem (points rows k) times t
sheet_holds (points_as_set rows k times) t = λ p. (
  λ m. one_of_lem times p (all_at (λ x. T (one_of times x)) m (every_all (one_of times) (points rows k) (and_first (every (one_of times) (points rows k)) (every (one_of (points rows k)) times) t))),
  λ m. one_of_lem (points rows k) p (all_at (λ x. T (one_of (points rows k) x)) m (every_all (one_of (points rows k)) times (and_second (every (one_of times) (points rows k)) (every (one_of (points rows k)) times) t))),
)
sheet_holds (bound_on rows k i b) t = subst (IsBound rows k i) (same_signed_lem (bound rows k i) b t) (bound_is rows k i)
sheet_holds (slack_at rows k t z) p = same_signed_lem (slack rows k t) z p
sheet_holds (quotient_at rows k i t z) p = same_signed_lem (quotient rows k i t) z p
sheet_holds (order_taken rows order) t = same_list_lem (taken rows) order t
sheet_holds (listed table text) t =
    let same = same_list (text_of (certificate allowance_fit table)) text in
    listed_holds table (and_first (is_table table) same t) text (same_list_lem (text_of (certificate allowance_fit table)) text (and_second (is_table table) same t))
sheet_holds (table_refused table number row) t =
    let refuses = refuses_with (certificate allowance_fit table) number row in
    refused_holds table (and_first (is_table table) refuses t) number row (and_second (is_table table) refuses t)
sheet_holds (limited_by rows row limiting p) t =
    let limits = limited_at rows row limiting p in
    limited_holds rows (and_first (is_set rows) limits t) row limiting p (and_second (is_set rows) limits t)
sheet_holds (why_refused rows asked number row) t =
    let refuses = why_is_refused rows asked number row in
    why_refused_holds rows (and_first (is_set rows) refuses t) asked number row (and_second (is_set rows) refuses t)
sheet_holds (text_accepted cores text written) t = λ lent. text_accepted_holds cores text lent written t
sheet_holds (text_refused cores text number row) t = λ lent. text_refused_holds cores text lent number row t
sheet_holds (text_tabled cores text bytes) t = λ lent. text_tabled_holds cores text lent bytes t

each_holds : (some : List Sheet) → T (each_passes some) → (sheet : Sheet) → Memᴰ sheet some → Holds sheet
unfolding each_passes
each_holds [] t sheet m = elim m [ ]
each_holds (first ∷ others) t sheet m = go (each_holds others (and_second (passes first) (each_passes others) t) sheet) (Memᴰ.cases_cons m)
  where
    go : (Memᴰ sheet others → Holds sheet) → (sheet ≡ first) ⊎ Memᴰ sheet others → Holds sheet
    go further (inl e) = subst Holds (sym e) (sheet_holds first (and_first (passes first) (each_passes others) t))
    go further (inr n) = further n

-- the test, computed over the whole list
all_pass : T (each_passes sheets)
unfolding sheets each_passes passes same_list one_of is_set is_table misses_first refuses_late is_first limited_at why_is_refused up_from keep sum every insert sort best rivals levels ceil demand load climb outcome on_time last_multiple walk points slack floor_div times quotient bound point_allowance allowance core_allowance work core_rows place_on_core taken takes candidate_at takers chosen_of step_of run figures_of certificate_of certificate ascii header_line digits_before decimal row_line row_lines smallest_allowance system_allowance listing refusal in_front lines_of fields_of held number_from number_in row_from row_in names same_bytes hold with_row rows_from headed text_is judged table_from in_rows_place on_cores read_text joined line_of all_names certified_line certified_lines certified_text four_bytes table_records table_bytes flat_map
all_pass = tt

-- EVERY SHEET HOLDS
pub every_sheet_holds : (sheet : Sheet) → Memᴰ sheet sheets → Holds sheet
every_sheet_holds = each_holds sheets all_pass
