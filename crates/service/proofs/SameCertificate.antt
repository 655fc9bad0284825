-- A text and table bytes that are one table get one certificate: the same row where no core takes one, else the same figures.
use mathlib.Core.Path.{◌≡◌, refl, sym, ap, subst, ◌∙◌}
use Prim.Native.Nat.{ℕ, suc}
use mathlib.Core.List.{List}
use Rattle.theory.specs.Returned.{Returned, returned}
use Rattle.theory.specs.Lists.{filled}
use Rattle.placement.specs.Core.{Table}
use Rattle.placement.specs.Choice.{Rule, IsRule}
use Rattle.placement.specs.Figures.{Figures, Certified}
use Rattle.records.specs.Reading.{read_table, table}
use Rattle.records.specs.Report.{report_bytes}
use Rattle.texts.specs.Table.{read_text}
use Rattle.texts.specs.Columns.{certified_text}
use Rattle.service.specs.Table.{TableAnswered}
use Rattle.service.specs.Text.{TextAnswered}
use Rattle.service.proofs.Accepted.{accepted_report, accepted_text}
use Rattle.service.proofs.Determined.{one_table, not_both, one_stop, one_list, not_certified}

-- the figures of a table, in the text and in the report that two accepted calls leave
pub record OneCertificate (rule : Rule) (t : Table) (lent written report after : List ℕ) : Type 0 where
  pub figures : List Figures
  pub is_certified : Certified rule t figures
  pub is_text : written ≡ filled (certified_text t.rows figures) lent
  pub is_report : after ≡ filled (report_bytes t figures) report

module _ {rule : Rule} (is-rule : IsRule rule) (cores : ℕ) (text bytes : List ℕ) {t : Table} (as-text : read_text cores text ≡ table t) (as_bytes : read_table bytes ≡ table t) where
  -- a table that either is read as is this one
  of_text : {u : Table} → read_text cores text ≡ table u → table t ≡ table u
  of_text p = sym as-text ∙ p

  of_bytes : {u : Table} → read_table bytes ≡ table u → table t ≡ table u
  of_bytes p = sym as_bytes ∙ p

  module _ {lent report : List ℕ} where
    -- WHERE WHAT IS LENT IS LONG ENOUGH FOR BOTH, BOTH RETURN THE SAME
    pub same_return :
        {a b : Returned} {n : ℕ} {written after : List ℕ} → TextAnswered rule cores text lent a n written → TableAnswered rule bytes report b after
        → (a ≡ returned 7 0 → ⊥)
        → (b ≡ returned 7 0 → ⊥)
        → a ≡ b
    same_return (TextAnswered.not_a_table number row p) second long also = not_both as-text p
    same_return (TextAnswered.no_core_takes_it u i p s) (TableAnswered.not_a_table number row q) long also = not_both as_bytes q
    same_return (TextAnswered.no_core_takes_it u i p s) (TableAnswered.output_too_short v q r) long also = absurd (also refl)
    same_return (TextAnswered.no_core_takes_it u i p s) (TableAnswered.no_core_takes_it v j q m r) long also = ap (λ (x : ℕ). returned 6 (suc x)) (one_stop is-rule (of_text p) (of_bytes q) s r)
    same_return (TextAnswered.no_core_takes_it u i p s) (TableAnswered.accepted v others q m d) long also = not_certified is-rule (of_text p) (of_bytes q) s d
    same_return (TextAnswered.output_too_short u all p c s) second long also = absurd (long refl)
    same_return (TextAnswered.accepted u all p c l) (TableAnswered.not_a_table number row q) long also = not_both as_bytes q
    same_return (TextAnswered.accepted u all p c l) (TableAnswered.output_too_short v q r) long also = absurd (also refl)
    same_return (TextAnswered.accepted u all p c l) (TableAnswered.no_core_takes_it v j q m r) long also = not_certified is-rule (of_bytes q) (of_text p) r c
    same_return (TextAnswered.accepted u all p c l) (TableAnswered.accepted v others q m d) long also = refl

    -- WHERE BOTH ACCEPT, TEXT AND REPORT HAVE THE SAME FIGURES
    pub same_certificate :
        {n : ℕ} {written after : List ℕ} → TextAnswered rule cores text lent (returned 0 0) n written → TableAnswered rule bytes report (returned 0 0) after
        → OneCertificate rule t lent written report after
    same_certificate first second =
        let one = accepted_text first refl in
        let other = accepted_report second refl in
        let same_text = one_table one.is_table_lem as-text in
        record {
          figures = one.figures;
          is_certified = subst (λ (x : Table). Certified rule x one.figures) same_text one.is_certified;
          is_text = one.is_text ∙ ap (λ (x : Table). filled (certified_text x.rows one.figures) lent) same_text;
          is_report =
              other.is_report
              ∙ ap (λ (x : Table). filled (report_bytes x other.figures) report) (one_table other.is_table_lem as_bytes)
              ∙ ap (λ (x : List Figures). filled (report_bytes t x) report) (one_list is-rule (of_bytes other.is_table_lem) (of_text one.is_table_lem) other.is_certified one.is_certified);
        }
