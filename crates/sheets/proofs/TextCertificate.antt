-- What the sheets on texts say, from the computed reading and certificate.
use mathlib.Core.Path.{◌≡◌, refl, subst}
use Prim.Native.Nat.{ℕ, suc, ◌≤◌, ◌<◌}
use mathlib.Core.Bool.{◌&&◌}
use mathlib.Core.List.{List}
use lib.Dec.{T, eqb, eqb→eq}
use lib.ListN.{length}
use Rattle.theory.specs.Returned.{Returned, returned}
use Rattle.theory.specs.Lists.{filled}
use Rattle.theory.proofs.Tests.{and_first, and_second}
use Rattle.placement.specs.Core.{Table}
use Rattle.placement.specs.Choice.{allowance_fit}
use Rattle.placement.specs.Figures.{Certificate, certified, no_core_takes, IsCertificate}
use Rattle.placement.specs.Computed.{certificate}
use Rattle.records.specs.Reading.{Reading, table, refused}
use Rattle.texts.specs.Table.{read_text}
use Rattle.texts.specs.Columns.{certified_text}
use Rattle.records.specs.Report.{table_bytes}
use Rattle.service.specs.Text.{TextAnswered, TextTabled}
use Rattle.sheets.proofs.Test.{is_table, refuses_with, written_as, accepted_as, refused_as, tabled_as}
use Rattle.sheets.proofs.Law.{same_list_lem}
use Rattle.sheets.proofs.Certificate.{is_certificate}

-- a number and a row that pass are those returned
same_returned : (number row other-number other_row : ℕ) → T (eqb number other-number && eqb row other_row) → returned number row ≡ returned other-number other_row
same_returned number row other-number other_row same =
    let same_number = eqb→eq number other-number (and_first (eqb number other-number) (eqb row other_row) same) in
    let same_row = eqb→eq row other_row (and_second (eqb number other-number) (eqb row other_row) same) in
    cc

module _ (cores : ℕ) (text lent : List ℕ) where
  -- what is returned where nothing is written
  abbrev RefusedWith : Returned → Type 0
  RefusedWith returns = TextAnswered allowance_fit cores text lent returns 0 lent

  pub text_refused_holds : (number row : ℕ) → T (refused_as (read_text cores text) number row) → RefusedWith (returned number row)
  text_refused_holds number row refuses = go (read_text cores text) refl refuses
    where
      stopped : (t : Table) → read_text cores text ≡ table t → (c : Certificate) → IsCertificate allowance_fit t c → T (refuses_with c number row) → RefusedWith (returned number row)
      stopped t reads (certified all) is stops = absurd stops
      stopped t reads (no_core_takes i) is stops = subst RefusedWith (same_returned 6 (suc i) number row stops) (TextAnswered.no_core_takes_it t i reads is)

      go : (reading : Reading) → read_text cores text ≡ reading → T (refused_as reading number row) → RefusedWith (returned number row)
      go (table t) reads tests =
          let stops = refuses_with (certificate allowance_fit t) number row in
          stopped t reads (certificate allowance_fit t) (is_certificate t (and_first (is_table t) stops tests)) (and_second (is_table t) stops tests)
      go (refused other-number other_row) reads same =
          subst RefusedWith (same_returned other-number other_row number row same) (TextAnswered.not_a_table other-number other_row reads)

  -- what is written where it fits, and that it is too much where it does not
  abbrev Writes : List ℕ → Type 0
  Writes written =
      (length written ≤ length lent → TextAnswered allowance_fit cores text lent (returned 0 0) (length written) (filled written lent))
      × (length lent < length written → RefusedWith (returned 7 0))

  pub text_accepted_holds : (written : List ℕ) → T (accepted_as (read_text cores text) written) → Writes written
  text_accepted_holds written accepts = go (read_text cores text) refl accepts
    where
      writes : (t : Table) → read_text cores text ≡ table t → (c : Certificate) → IsCertificate allowance_fit t c → T (written_as t.rows c written) → Writes written
      writes t reads (certified all) is same =
          subst Writes (same_list_lem (certified_text t.rows all) written same) (TextAnswered.accepted t all reads is, TextAnswered.output_too_short t all reads is)
      writes t reads (no_core_takes i) is same = absurd same

      go : (reading : Reading) → read_text cores text ≡ reading → T (accepted_as reading written) → Writes written
      go (table t) reads tests =
          let same = written_as t.rows (certificate allowance_fit t) written in
          writes t reads (certificate allowance_fit t) (is_certificate t (and_first (is_table t) same tests)) (and_second (is_table t) same tests)
      go (refused number row) reads is-refused = absurd is-refused

  -- the table's bytes
  abbrev Tables : List ℕ → Type 0
  Tables bytes = length bytes ≤ length lent → TextTabled cores text lent (returned 0 0) (length bytes) (filled bytes lent)

  pub text_tabled_holds : (bytes : List ℕ) → T (tabled_as (read_text cores text) bytes) → Tables bytes
  text_tabled_holds bytes tabled = go (read_text cores text) refl tabled
    where
      go : (reading : Reading) → read_text cores text ≡ reading → T (tabled_as reading bytes) → Tables bytes
      go (table t) reads same = subst Tables (same_list_lem (table_bytes t) bytes same) (TextTabled.accepted t reads)
      go (refused number row) reads is-refused = absurd is-refused
