-- Versions of the table service that its promise shuts out: document 01, "Versions to be shut out" and "Errors seen in this trade". A version is told
-- apart by one table whose report is known byte by byte; one that does not copy the table, by every table.
use mathlib.Core.Path.{◌≡◌, refl, sym, ◌∙◌, ap}
use Prim.Native.Nat.{ℕ, ◌+◌, ◌*◌, ◌/◌, ◌<◌, ◌≤◌}
use mathlib.Core.Bool.{not}
use mathlib.Core.List.{List, [], ◌∷◌, map, flat_map}
use native.Mathlib.Omega.{arith}
use lib.Dec.{T, leb, eqb, T_not, eqb_refl}
use lib.ListN.{length, get_or, take, drop, replicate, length-replicate}
use Rattle.theory.specs.Returned.{Returned, returned}
use Rattle.theory.specs.Row.{Row, row_at}
use Rattle.theory.specs.Gather.{less_or_tied, up_from, keep, sum, every, insert, sort, best}
use Rattle.theory.specs.Rank.{places, rivals, levels}
use Rattle.theory.specs.Response.{ceil, demand, load, climb, outcome, on_time}
use Rattle.theory.specs.Points.{last_multiple, walk, points, slack, floor_div, times, quotient, bound, point_allowance, allowance, core_allowance}
use Rattle.theory.specs.Lists.{filled}
use Rattle.placement.specs.Core.{Table, core_rows, core_of, place_on_core}
use Rattle.placement.specs.Order.{taken}
use Rattle.placement.specs.Choice.{Rule, allowance_fit}
use Rattle.placement.specs.Figures.{Figures, certified}
use Rattle.placement.specs.Computed.{takes, candidate_at, takers, chosen_of, step_of, Run, placed, run, figures_of, certificate_of, certificate}
use Rattle.placement.proofs.Fit.{allowance_fit_is_rule}
use Rattle.records.specs.Number.{big_endian_from, number_at, four_bytes}
use Rattle.records.specs.Reading.{TableWithin, row_in}
use Rattle.records.specs.Report.{table_records, table_bytes, report_bytes, report_length}
use Rattle.service.specs.Table.{TableAnswered}
use Rattle.service.proofs.Table.{Same, table_answered_unique}
use Rattle.service.proofs.Copied.{table_copied, row_copied}
use Rattle.sheets.specs.Sheets.{row, the_four}
use Rattle.sheets.proofs.Test.{is_set, is_table}
use Rattle.sheets.proofs.Certificate.{accepted_holds}

-- what the report on a table says of the row at place i: behind the table's records stand ten bytes for each row, of which the second is the core and the
-- last four are the allowance
abbrev pub core_in : Table → ℕ → List ℕ → ℕ
core_in t i report = get_or report (3 + 13 * length t.rows + 10 * i) 0

abbrev pub allowance_in : Table → ℕ → List ℕ → ℕ
allowance_in t i report = number_at (8 + 13 * length t.rows + 10 * i) report

-- the run of the placement by a rule of choice, the rows taken in an order
abbrev pub run_by : Rule → (List Row → List ℕ) → Table → Run
run_by rule order t = run rule t (replicate (length t.rows) 0) (order t.rows)

-- "at least" instead of "greater" between cores
abbrev pub at_least : Rule
at_least c d = leb d.allowance c.allowance

-- utilisations in whole per cent
abbrev pub per_cent : Row → ℕ
per_cent row = row.C * 100 / row.T

-- rows taken by decreasing utilisation in whole per cent; on a tie, table order
unfoldable pub taken_by_per_cent : List Row → List ℕ
taken_by_per_cent rows = sort (λ i j. less_or_tied (per_cent (row_at rows j)) (per_cent (row_at rows i)) i j) (places rows)

-- a row's figures, as in the listing
abbrev figures : ℕ → ℕ → ℕ → Figures
figures core response allowance = record { core = core; response = response; allowance = allowance }

-- the row 1/2/2 alone on cores of a number
abbrev one_row_on : ℕ → Table
one_row_on cores = record { cores = cores; rows = row 1 2 2 ∷ [] }

-- sheet 3
abbrev sheet_three : Table
sheet_three = record { cores = 2; rows = the_four }

-- in whole per cent these two rows tie, though 1/3 is larger
abbrev a_third : Table
a_third = record { cores = 2; rows = row 33 100 100 ∷ row 1 3 3 ∷ [] }

-- a table's certificate, known
record Known (t : Table) (all : List Figures) : Type 0 where
  is_table_lem : T (is_table t)
  computed : certificate allowance_fit t ≡ certified all

-- those of the tables above, computed
known : Known (one_row_on 1) (figures 1 1 1 ∷ [])
    × Known (one_row_on 2) (figures 1 1 1 ∷ [])
    × Known sheet_three (figures 2 10 50 ∷ figures 1 15 47 ∷ figures 1 45 95 ∷ figures 1 90 110 ∷ [])
    × Known a_third (figures 2 33 67 ∷ figures 1 1 2 ∷ [])
unfolding row the_four is_set is_table up_from keep sum every insert sort best rivals levels ceil demand load climb outcome on_time last_multiple walk points slack floor_div times quotient bound point_allowance allowance core_allowance core_rows place_on_core taken takes candidate_at takers chosen_of step_of run figures_of certificate_of certificate
known = (
  record { is_table_lem = tt; computed = refl },
  record { is_table_lem = tt; computed = refl },
  record { is_table_lem = tt; computed = refl },
  record { is_table_lem = tt; computed = refl },
)

-- read from the report of sheet 3, cores and allowances are those of its listing
listing_read : let report = report_bytes sheet_three (figures 2 10 50 ∷ figures 1 15 47 ∷ figures 1 45 95 ∷ figures 1 90 110 ∷ []) in
    (map (λ i. core_in sheet_three i report) (up_from 0 4) ≡ 2 ∷ 1 ∷ 1 ∷ 1 ∷ []) × (map (λ i. allowance_in sheet_three i report) (up_from 0 4) ≡ 50 ∷ 47 ∷ 95 ∷ 110 ∷ [])
unfolding row the_four flat_map up_from report_bytes table_records four_bytes number_at big_endian_from
listing_read = (refl, refl)

-- the runs by the two errors on two of them: the row goes to the higher core, and the two rows change places
other_runs : (run_by at_least taken (one_row_on 2) ≡ placed (2 ∷ [])) × (run_by allowance_fit taken_by_per_cent a_third ≡ placed (1 ∷ 2 ∷ []))
unfolding row taken_by_per_cent up_from keep sum every insert sort best rivals levels ceil demand load climb outcome on_time last_multiple walk points slack floor_div times quotient bound point_allowance allowance core_allowance core_rows taken takes candidate_at takers chosen_of step_of run
other_runs = (refl, refl)

-- a lent report of zeros, just long enough
abbrev lent : Table → List ℕ
lent t = replicate (report_length (length t.rows)) 0

-- a version of the table service that keeps its promise on all bytes and all lent reports
module _ (answer : List ℕ → List ℕ → Returned) (report-after : List ℕ → List ℕ → List ℕ)
    (keeps : (bytes report : List ℕ) → TableAnswered allowance_fit bytes report (answer bytes report) (report-after bytes report)) where
  -- it accepts a table, and what it writes then
  abbrev Accepts : Table → List ℕ → Type 0
  Accepts t report = answer (table_bytes t) report ≡ returned 0 0

  abbrev written : Table → List ℕ → List ℕ
  written t report = report-after (table_bytes t) report

  -- WHERE THE CERTIFICATE IS KNOWN, SO IS EVERY BYTE OF THE REPORT
  on_table : {t : Table} {all : List Figures} → Known t all → (report : List ℕ) → report_length (length t.rows) ≤ length report
      → Same (answer (table_bytes t) report) (returned 0 0) (written t report) (filled (report_bytes t all) report)
  on_table {t} {all} of_table report long =
      table_answered_unique allowance_fit allowance_fit_is_rule (table_bytes t) report (keeps (table_bytes t) report) (accepted_holds t of_table.is_table_lem all of_table.computed report long)

  -- so with zeros lent
  on_zeros : {t : Table} {all : List Figures} → Known t all → Same (answer (table_bytes t) (lent t)) (returned 0 0) (written t (lent t)) (filled (report_bytes t all) (lent t))
  on_zeros {t} of_table = on_table of_table (lent t) (omega (arith, length-replicate {A = ℕ} (report_length (length t.rows)) 0))

  -- a version that writes another number than the one that stands in the known report
  told_apart : {t : Table} {all : List Figures} → Known t all → (read : List ℕ → ℕ) (n : ℕ)
      → (Accepts t (lent t) → read (written t (lent t)) ≡ n)
      → T (not (eqb n (read (filled (report_bytes t all) (lent t)))))
      → ⊥
  told_apart {t} {all} of_table read n writes other =
      let right = on_zeros of_table in
      let same : read (filled (report_bytes t all) (lent t)) ≡ n = ap read (sym right.same_report) ∙ writes right.same_answer in
      T_not (eqb n n) (rw same at other) (eqb_refl n)

  pub refusing_all_is_shut_out : ((t : Table) (report : List ℕ) → Accepts t report → ⊥) → ⊥
  refusing_all_is_shut_out refuses = refuses (one_row_on 1) (lent (one_row_on 1)) (on_zeros known.0).same_answer

  pub one_report_for_all_is_shut_out : ((t u : Table) (report : List ℕ) → Accepts t report → Accepts u report → written t report ≡ written u report) → ⊥
  unfolding row flat_map report_bytes table_records four_bytes
  one_report_for_all_is_shut_out alike =
      let second = on_zeros known.1 in
      let coresAt : List ℕ → ℕ = λ report. get_or report 1 0 in
      told_apart known.0 coresAt 2 (λ accepts. ap coresAt (alike (one_row_on 1) (one_row_on 2) (lent (one_row_on 1)) accepts second.same_answer ∙ second.same_report)) tt

  pub writing_nothing_is_shut_out : ((t : Table) (report : List ℕ) → Accepts t report → written t report ≡ report) → ⊥
  unfolding row flat_map report_bytes table_records four_bytes
  writing_nothing_is_shut_out nothing =
      let kind_at : List ℕ → ℕ = λ report. get_or report 0 0 in
      told_apart known.0 kind_at 0 (λ accepts. ap kind_at (nothing (one_row_on 1) (lent (one_row_on 1)) accepts)) tt

  pub allowances_always_0_are_shut_out : ((t : Table) (report : List ℕ) → Accepts t report → (i : ℕ) → i < length t.rows → allowance_in t i (written t report) ≡ 0) → ⊥
  unfolding row flat_map report_bytes table_records four_bytes number_at big_endian_from
  allowances_always_0_are_shut_out always =
      told_apart known.0 (allowance_in (one_row_on 1) 0) 0 (λ accepts. always (one_row_on 1) (lent (one_row_on 1)) accepts 0 (omega arith)) tt

  -- the first row that is taken may be placed by the rule
  pub others_on_core_1_are_shut_out :
      ((t : Table) (report : List ℕ) → Accepts t report → (i : ℕ) → i < length t.rows → (i ≡ get_or (taken t.rows) 0 0 → ⊥) → core_in t i (written t report) ≡ 1) → ⊥
  unfolding row the_four flat_map report_bytes table_records four_bytes taken up_from insert sort
  others_on_core_1_are_shut_out others =
      told_apart known.2 (core_in sheet_three 0) 1 (λ accepts. others sheet_three (lent sheet_three) accepts 0 (omega arith) (λ e. omega arith)) tt

  -- each row is on the core on which a run leaves it
  abbrev PlacesAs : (Table → Run) → Type 0
  PlacesAs other = (t : Table) (report assignment : List ℕ) → Accepts t report → other t ≡ placed assignment → (i : ℕ) → i < length t.rows → core_in t i (written t report) ≡ core_of assignment i

  pub at_least_between_cores_is_shut_out : PlacesAs (run_by at_least taken) → ⊥
  unfolding row flat_map report_bytes table_records four_bytes
  at_least_between_cores_is_shut_out as-run =
      told_apart known.1 (core_in (one_row_on 2) 0) 2 (λ accepts. as-run (one_row_on 2) (lent (one_row_on 2)) (2 ∷ []) accepts other_runs.0 0 (omega arith)) tt

  pub whole_per_cent_is_shut_out : PlacesAs (run_by allowance_fit taken_by_per_cent) → ⊥
  unfolding row flat_map report_bytes table_records four_bytes
  whole_per_cent_is_shut_out as-run =
      told_apart known.3 (core_in a_third 0) 1 (λ accepts. as-run a_third (lent a_third) (1 ∷ 2 ∷ []) accepts other_runs.1 0 (omega arith)) tt

  -- on each table that keeps the rules the report begins with all of its kind 1 and kind 2 records
  pub copying_part_is_shut_out : (t : Table) (report : List ℕ) → TableWithin t → Accepts t report → (take (2 + 13 * length t.rows) (written t report) ≡ table_records t → ⊥) → ⊥
  copying_part_is_shut_out t report within accepts differs = differs (table_copied allowance_fit t within report (keeps (table_bytes t) report) accepts)

  -- in which each row has its own C, D and T
  pub changing_a_row_is_shut_out :
      (t : Table) (report : List ℕ) → TableWithin t → Accepts t report → (i : ℕ) → i < length t.rows → (row_in (drop (3 + 13 * i) (written t report)) ≡ row_at t.rows i → ⊥) → ⊥
  changing_a_row_is_shut_out t report within accepts i inside differs = differs (row_copied allowance_fit t within report (keeps (table_bytes t) report) accepts i inside)
