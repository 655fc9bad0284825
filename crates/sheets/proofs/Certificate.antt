-- What the sheets on whole tables say, from the computed certificate.
use mathlib.Core.Path.{◌≡◌, subst}
use Prim.Native.Nat.{ℕ, suc, ◌≤◌}
use mathlib.Core.Bool.{◌&&◌}
use mathlib.Core.List.{List}
use lib.Dec.{T, leb, eqb, leb→le, eqb→eq}
use lib.ListN.{length}
use Rattle.theory.specs.Returned.{Returned, returned}
use Rattle.theory.specs.Lists.{filled}
use Rattle.theory.proofs.Tests.{and_first, and_second}
use Rattle.placement.specs.Core.{Table}
use Rattle.placement.specs.Choice.{allowance_fit}
use Rattle.placement.specs.Figures.{Figures, Certificate, certified, no_core_takes, IsCertificate}
use Rattle.placement.specs.Computed.{certificate}
use Rattle.placement.proofs.Fit.{allowance_fit_is_rule}
use Rattle.placement.proofs.Computed.{certificate_is}
use Rattle.records.specs.Reading.{read_table, table, TableWithin}
use Rattle.records.specs.Report.{table_bytes, report_bytes, report_length}
use Rattle.records.proofs.ReadingBack.{table_reads_back}
use Rattle.service.specs.Table.{TableAnswered, Listed}
use Rattle.sheets.proofs.Test.{is_set, is_table, text_of, refuses_with}
use Rattle.sheets.proofs.Law.{set_within, set_some, set_no_25th}

module _ (t : Table) (passes : T (is_table t)) where
  table_within : TableWithin t
  unfolding is_table
  table_within =
      let cores : T (leb 1 t.cores && leb t.cores 8) = and_first (leb 1 t.cores && leb t.cores 8) (is_set t.rows) passes in
      let set : T (is_set t.rows) = and_second (leb 1 t.cores && leb t.cores 8) (is_set t.rows) passes in
      record {
        some_core = leb→le 1 t.cores (and_first (leb 1 t.cores) (leb t.cores 8) cores);
        no_9th_core = leb→le t.cores 8 (and_second (leb 1 t.cores) (leb t.cores 8) cores);
        some_row = set_some t.rows set;
        no_25th_row = set_no_25th t.rows set;
        rows_within = set_within t.rows set;
      }

  reads : read_table (table_bytes t) ≡ table t
  reads = table_reads_back t table_within

  pub is_certificate : IsCertificate allowance_fit t (certificate allowance_fit t)
  is_certificate = certificate_is t table_within.rows_within allowance_fit allowance_fit_is_rule

  pub listed_holds : (text : List ℕ) → text_of (certificate allowance_fit t) ≡ text → Listed allowance_fit (table_bytes t) text
  listed_holds text e = subst (Listed allowance_fit (table_bytes t)) e (go (certificate allowance_fit t) is_certificate)
    where
      go : (c : Certificate) → IsCertificate allowance_fit t c → Listed allowance_fit (table_bytes t) (text_of c)
      go (certified all) is = Listed.accepted t all reads is
      go (no_core_takes i) is = Listed.no_core_takes_it t i reads is

  pub accepted_holds : (all : List Figures) → certificate allowance_fit t ≡ certified all
      → (report : List ℕ)
      → report_length (length t.rows) ≤ length report
      → TableAnswered allowance_fit (table_bytes t) report (returned 0 0) (filled (report_bytes t all) report)
  accepted_holds all e report long = TableAnswered.accepted t all reads long (subst (IsCertificate allowance_fit t) e is_certificate)

  pub refused_holds : (number row : ℕ) → T (refuses_with (certificate allowance_fit t) number row)
      → (report : List ℕ)
      → report_length (length t.rows) ≤ length report
      → TableAnswered allowance_fit (table_bytes t) report (returned number row) report
  refused_holds number row stops report long = go (certificate allowance_fit t) is_certificate stops
    where
      go : (c : Certificate) → IsCertificate allowance_fit t c → T (refuses_with c number row) → TableAnswered allowance_fit (table_bytes t) report (returned number row) report
      go (certified all) is s = absurd s
      go (no_core_takes i) is s =
          let six = eqb→eq 6 number (and_first (eqb 6 number) (eqb (suc i) row) s) in
          let its_row = eqb→eq (suc i) row (and_second (eqb 6 number) (eqb (suc i) row) s) in
          subst (λ (r : Returned). TableAnswered allowance_fit (table_bytes t) report r report) (cc) (TableAnswered.no_core_takes_it t i reads long is)
