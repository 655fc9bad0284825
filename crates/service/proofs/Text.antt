-- The promises of the services on a text determine the answer, how many bytes are written, and every lent byte; and the table's bytes that are written are read as
-- the table that the text is.
use mathlib.Core.Path.{◌≡◌, refl, sym, ap, ◌∙◌}
use Prim.Native.Nat.{ℕ, suc, ◌≤◌, ◌<◌}
use mathlib.Core.List.{List}
use native.Mathlib.Omega.{arith}
use lib.ListN.{length, take, drop}
use lib.Seq.{take_at}
use Rattle.theory.specs.Returned.{Returned, returned}
use Rattle.theory.specs.Lists.{filled}
use Rattle.placement.specs.Core.{Table}
use Rattle.placement.specs.Choice.{Rule, IsRule}
use Rattle.placement.specs.Figures.{Figures, Certified}
use Rattle.records.specs.Reading.{read_table, table}
use Rattle.records.specs.Report.{table_bytes}
use Rattle.records.proofs.ReadingBack.{table_reads_back}
use Rattle.texts.specs.Table.{read_text}
use Rattle.texts.specs.Columns.{certified_text}
use Rattle.texts.proofs.Reading.{read_text_within, text_refused}
use Rattle.service.specs.Text.{TextAnswered, TextTabled}
use Rattle.service.proofs.Accepted.{not_accepted}
use Rattle.service.proofs.Determined.{one_table, one_refusal, not_both, one_stop, one_list, not_certified}

-- two results of a service on a text that are the same
pub record SameWritten (answer other : Returned) (n other-n : ℕ) (bytes other-bytes : List ℕ) : Type 0 where
  pub same_answer : answer ≡ other
  pub same_length : n ≡ other-n
  pub same_bytes : bytes ≡ other-bytes

module _ (lent : List ℕ) where
  refused_alike : {a b : Returned} → a ≡ b → SameWritten a b 0 0 lent lent
  refused_alike e = record { same_answer = e; same_length = refl; same_bytes = refl }

  both_written : {part other : List ℕ} → part ≡ other → SameWritten (returned 0 0) (returned 0 0) (length part) (length other) (filled part lent) (filled other lent)
  both_written e = record { same_answer = refl; same_length = ap length e; same_bytes = ap (λ (x : List ℕ). filled x lent) e }

  -- what is written is too long, or fits
  short_and_long : {X : Type 0} {part other : List ℕ} → part ≡ other → length lent < length part → length other ≤ length lent → X
  short_and_long e short long = absurd (omega (arith, ap length e))

module _ (cores : ℕ) (text lent : List ℕ) where
  module _ {rule : Rule} (is-rule : IsRule rule) where
    one_text : {t u : Table} {all others : List Figures} → read_text cores text ≡ table t → read_text cores text ≡ table u → Certified rule t all → Certified rule u others
        → certified_text t.rows all ≡ certified_text u.rows others
    one_text {u = u} {all = all} p q c d = ap (λ (x : Table). certified_text x.rows all) (one_table p q) ∙ ap (certified_text u.rows) (one_list is-rule p q c d)

    -- THE CERTIFICATE OF A TEXT IS DETERMINED
    pub text_answered_unique :
        {a b : Returned} {n m : ℕ} {first second : List ℕ} → TextAnswered rule cores text lent a n first → TextAnswered rule cores text lent b m second
        → SameWritten a b n m first second
    text_answered_unique (TextAnswered.not_a_table a x p) (TextAnswered.not_a_table b y q) = refused_alike lent (let same = one_refusal p q in cc)
    text_answered_unique (TextAnswered.not_a_table a x p) (TextAnswered.no_core_takes_it u j q r) = not_both q p
    text_answered_unique (TextAnswered.not_a_table a x p) (TextAnswered.output_too_short u others q d r) = not_both q p
    text_answered_unique (TextAnswered.not_a_table a x p) (TextAnswered.accepted u others q d m) = not_both q p
    text_answered_unique (TextAnswered.no_core_takes_it t i p s) (TextAnswered.not_a_table b y q) = not_both p q
    text_answered_unique (TextAnswered.no_core_takes_it t i p s) (TextAnswered.no_core_takes_it u j q r) = refused_alike lent (ap (λ (x : ℕ). returned 6 (suc x)) (one_stop is-rule p q s r))
    text_answered_unique (TextAnswered.no_core_takes_it t i p s) (TextAnswered.output_too_short u others q d r) = not_certified is-rule p q s d
    text_answered_unique (TextAnswered.no_core_takes_it t i p s) (TextAnswered.accepted u others q d m) = not_certified is-rule p q s d
    text_answered_unique (TextAnswered.output_too_short t all p c s) (TextAnswered.not_a_table b y q) = not_both p q
    text_answered_unique (TextAnswered.output_too_short t all p c s) (TextAnswered.no_core_takes_it u j q r) = not_certified is-rule q p r c
    text_answered_unique (TextAnswered.output_too_short t all p c s) (TextAnswered.output_too_short u others q d r) = refused_alike lent refl
    text_answered_unique (TextAnswered.output_too_short t all p c s) (TextAnswered.accepted u others q d m) = short_and_long lent (one_text p q c d) s m
    text_answered_unique (TextAnswered.accepted t all p c l) (TextAnswered.not_a_table b y q) = not_both p q
    text_answered_unique (TextAnswered.accepted t all p c l) (TextAnswered.no_core_takes_it u j q r) = not_certified is-rule q p r c
    text_answered_unique (TextAnswered.accepted t all p c l) (TextAnswered.output_too_short u others q d r) = short_and_long lent (one_text q p d c) r l
    text_answered_unique (TextAnswered.accepted t all p c l) (TextAnswered.accepted u others q d m) = both_written lent (one_text p q c d)

  -- AND SO ARE THE TABLE'S BYTES
  pub text_tabled_unique : {a b : Returned} {n m : ℕ} {first second : List ℕ} → TextTabled cores text lent a n first → TextTabled cores text lent b m second → SameWritten a b n m first second
  text_tabled_unique (TextTabled.not_a_table a x p) (TextTabled.not_a_table b y q) = refused_alike lent (let same = one_refusal p q in cc)
  text_tabled_unique (TextTabled.not_a_table a x p) (TextTabled.output_too_short u q r) = not_both q p
  text_tabled_unique (TextTabled.not_a_table a x p) (TextTabled.accepted u q m) = not_both q p
  text_tabled_unique (TextTabled.output_too_short t p s) (TextTabled.not_a_table b y q) = not_both p q
  text_tabled_unique (TextTabled.output_too_short t p s) (TextTabled.output_too_short u q r) = refused_alike lent refl
  text_tabled_unique (TextTabled.output_too_short t p s) (TextTabled.accepted u q m) = short_and_long lent (ap table_bytes (one_table p q)) s m
  text_tabled_unique (TextTabled.accepted t p l) (TextTabled.not_a_table b y q) = not_both p q
  text_tabled_unique (TextTabled.accepted t p l) (TextTabled.output_too_short u q r) = short_and_long lent (ap table_bytes (one_table q p)) r l
  text_tabled_unique (TextTabled.accepted t p l) (TextTabled.accepted u q m) = both_written lent (ap table_bytes (one_table p q))

  -- THE BYTES THAT ARE WRITTEN ARE READ AS WHAT THE TEXT IS READ AS
  pub tabled_reads_back : {returns : Returned} {n : ℕ} {after : List ℕ} → TextTabled cores text lent returns n after → returns ≡ returned 0 0 → read_table (take n after) ≡ read_text cores text
  tabled_reads_back (TextTabled.not_a_table number row refused) accepted = not_accepted (omega (arith, (text_refused cores text number row refused).from_2)) accepted
  tabled_reads_back (TextTabled.output_too_short t reads short) accepted = not_accepted (omega arith) accepted
  tabled_reads_back (TextTabled.accepted t reads long) accepted =
      ap read_table (take_at (table_bytes t) (drop (length (table_bytes t)) lent) (length (table_bytes t)) refl) ∙ table_reads_back t (read_text_within cores text t reads) ∙ sym reads
