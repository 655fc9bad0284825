-- An accepted report tells its table and its figures: two accepted calls that end with the same bytes had the same table, and found the same figures.
use mathlib.Core.Path.{◌≡◌, refl, sym, ap, ◌∙◌}
use Prim.Native.Nat.{ℕ, suc, ◌≤◌}
use mathlib.Core.List.{List, [], ◌∷◌, ◌++◌, flat_map, append_assoc}
use native.Mathlib.Omega.{arith}
use lib.ListN.{length, take, drop}
use lib.Seq.{take_at}
use Rattle.theory.specs.Returned.{returned}
use Rattle.theory.specs.Row.{Row}
use Rattle.placement.specs.Core.{Table}
use Rattle.placement.specs.Choice.{Rule}
use Rattle.placement.specs.Figures.{Figures}
use Rattle.records.specs.Number.{four_bytes}
use Rattle.records.specs.Reading.{TableWithin}
use Rattle.records.specs.Report.{row_record, figures_record, count_record, table_records, report_bytes}
use Rattle.records.proofs.Reading.{read_table_within}
use Rattle.records.proofs.Lengths.{report_length_lem}
use Rattle.records.proofs.Report.{report_determines_table}
use Rattle.records.proofs.ReportFigures.{report_determines_figures}
use Rattle.certifying.proofs.Small.{certified_fit}
use Rattle.service.specs.Table.{TableAnswered}
use Rattle.service.proofs.Accepted.{ReportOf, accepted_report}

-- kind 2 records before a kind 3 are of one number of rows: the kind tells where they end
rows_counted : (rows others : List Row) (x y : List ℕ) → flat_map row_record rows ++ (3 ∷ x) ≡ flat_map row_record others ++ (3 ∷ y) → length rows ≡ length others
unfolding flat_map four_bytes
rows_counted [] [] x y same = refl
rows_counted [] (other ∷ others) x y same = absurd (let z : ◌≡◌ {A = ℕ} 3 2 = cc in omega arith)
rows_counted (row ∷ rows) [] x y same = absurd (let z : ◌≡◌ {A = ℕ} 2 3 = cc in omega arith)
rows_counted (row ∷ rows) (other ∷ others) x y same = ap suc (rows_counted rows others x y (ap (drop 13) same))

-- so are two reports that begin the same bytes
same_count : (t u : Table) (all others : List Figures) (kept lent : List ℕ) → 1 ≤ length all → 1 ≤ length others
    → report_bytes t all ++ kept ≡ report_bytes u others ++ lent
    → length t.rows ≡ length u.rows
unfolding report_bytes table_records flat_map four_bytes
same_count t u [] others kept lent some others-some same = absurd (omega arith)
same_count t u (x ∷ xs) [] kept lent some others-some same = absurd (omega arith)
same_count t u (x ∷ xs) (y ∷ ys) kept lent some others-some same =
    rows_counted t.rows u.rows _ _
    (sym (append_assoc (flat_map row_record t.rows) (flat_map figures_record (x ∷ xs) ++ count_record t.rows) kept)
    ∙ ap (drop 2) same
    ∙ append_assoc (flat_map row_record u.rows) (flat_map figures_record (y ∷ ys) ++ count_record u.rows) lent)

-- two accepted calls, whatever was lent, that leave the same bytes
module _ {rule : Rule} {bytes others report lent after : List ℕ} (first : ReportOf rule bytes report after) (second : ReportOf rule others lent after) where
  abbrev t : Table
  t = first.of_table

  abbrev u : Table
  u = second.of_table

  t_within : TableWithin t
  t_within = read_table_within bytes t first.is_table_lem

  u_within : TableWithin u
  u_within = read_table_within others u second.is_table_lem

  same_bytes : report_bytes t first.figures ≡ report_bytes u second.figures
  same_bytes =
      let same = sym first.is_report ∙ second.is_report in
      let one_each = first.is_certified.are_figures.one_each in
      let others-each = second.is_certified.are_figures.one_each in
      let count = same_count t u first.figures second.figures _ _ (omega (arith, one_each, t_within.some_row)) (omega (arith, others-each, u_within.some_row)) same in
      let n = length (report_bytes t first.figures) in
      let as_long : length (report_bytes u second.figures) ≡ n = omega (arith, count, report_length_lem t first.figures one_each, report_length_lem u second.figures others-each) in
      sym (take_at (report_bytes t first.figures) _ n refl) ∙ ap (take n) same ∙ take_at (report_bytes u second.figures) _ n as_long

  -- they have the same table
  same_report_same_table : t ≡ u
  same_report_same_table = report_determines_table t u first.figures second.figures t_within u_within first.is_certified.are_figures.one_each second.is_certified.are_figures.one_each same_bytes

  -- and the same figures
  same_report_same_figures : first.figures ≡ second.figures
  same_report_same_figures =
      report_determines_figures t first.figures second.figures
      (certified_fit rule t first.figures t_within.rows_within first.is_certified)
      (certified_fit rule u second.figures u_within.rows_within second.is_certified)
      (same_bytes ∙ ap (λ (x : Table). report_bytes x second.figures) (sym same_report_same_table))

-- TWO ACCEPTED REPORTS THAT ARE EQUAL HAVE THE SAME TABLE AND THE SAME FIGURES
pub equal_reports :
    {rule : Rule} {bytes others report lent after : List ℕ} (first : TableAnswered rule bytes report (returned 0 0) after) (second : TableAnswered rule others lent (returned 0 0) after)
    → ((accepted_report first refl).of_table ≡ (accepted_report second refl).of_table) × ((accepted_report first refl).figures ≡ (accepted_report second refl).figures)
equal_reports first second =
    (same_report_same_table (accepted_report first refl) (accepted_report second refl), same_report_same_figures (accepted_report first refl) (accepted_report second refl))
