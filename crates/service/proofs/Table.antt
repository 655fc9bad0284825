-- The table service's promise determines the answer and every byte of the report; the bench program's determines what it prints.
use mathlib.Core.Path.{◌≡◌, refl, ap, ◌∙◌}
use Prim.Native.Nat.{ℕ, suc, ◌≤◌, ◌<◌}
use mathlib.Core.List.{List}
use native.Mathlib.Omega.{arith}
use lib.ListN.{length}
use Rattle.theory.specs.Returned.{Returned, returned}
use Rattle.theory.specs.Lists.{filled}
use Rattle.placement.specs.Core.{Table}
use Rattle.placement.specs.Choice.{Rule, IsRule}
use Rattle.placement.specs.Figures.{Figures}
use Rattle.records.specs.Reading.{read_table, table}
use Rattle.records.specs.Report.{report_bytes, report_length}
use Rattle.listing.specs.Listing.{listing, refusal}
use Rattle.service.specs.Table.{TableAnswered, Listed, ListingAnswered}
use Rattle.service.proofs.Determined.{one_table, one_refusal, not_both, one_stop, one_list, not_certified}

-- two results of the table service that are the same
pub record Same (answer other : Returned) (report other-report : List ℕ) : Type 0 where
  pub same_answer : answer ≡ other
  pub same_report : report ≡ other-report

module _ (rule : Rule) (is-rule : IsRule rule) (bytes : List ℕ) where
  -- a report is too short for its table, or long enough
  short_and_long : {X : Type 0} (report : List ℕ) (t u : Table) → read_table bytes ≡ table t → read_table bytes ≡ table u
      → length report < report_length (length t.rows)
      → report_length (length u.rows) ≤ length report
      → X
  short_and_long report t u p q s l = absurd (let e : t ≡ u = one_table p q in let n : length t.rows ≡ length u.rows = ap (λ (x : Table). length x.rows) e in omega arith)

  module _ (report : List ℕ) where
    refused_alike : (a b : Returned) → a ≡ b → Same a b report report
    refused_alike a b e = record { same_answer = e; same_report = refl }

    both_accepted : (t u : Table) (all others : List Figures) → t ≡ u → all ≡ others
        → Same (returned 0 0) (returned 0 0) (filled (report_bytes t all) report) (filled (report_bytes u others) report)
    both_accepted t u all others e f = record {
      same_answer = refl;
      same_report = ap (λ (x : Table). filled (report_bytes x all) report) e ∙ ap (λ (x : List Figures). filled (report_bytes u x) report) f;
    }

    -- THE PROMISE DETERMINES THE RESULT
    pub table_answered_unique : {a b : Returned} {first second : List ℕ} → TableAnswered rule bytes report a first → TableAnswered rule bytes report b second → Same a b first second
    table_answered_unique (TableAnswered.not_a_table a x p) (TableAnswered.not_a_table b y q) = refused_alike (returned a x) (returned b y) (let same = one_refusal p q in cc)
    table_answered_unique (TableAnswered.not_a_table a x p) (TableAnswered.output_too_short u q r) = not_both q p
    table_answered_unique (TableAnswered.not_a_table a x p) (TableAnswered.no_core_takes_it u j q m r) = not_both q p
    table_answered_unique (TableAnswered.not_a_table a x p) (TableAnswered.accepted u others q m d) = not_both q p
    table_answered_unique (TableAnswered.output_too_short t p s) (TableAnswered.not_a_table b y q) = not_both p q
    table_answered_unique (TableAnswered.output_too_short t p s) (TableAnswered.output_too_short u q r) = refused_alike (returned 7 0) (returned 7 0) refl
    table_answered_unique (TableAnswered.output_too_short t p s) (TableAnswered.no_core_takes_it u j q m r) = short_and_long report t u p q s m
    table_answered_unique (TableAnswered.output_too_short t p s) (TableAnswered.accepted u others q m d) = short_and_long report t u p q s m
    table_answered_unique (TableAnswered.no_core_takes_it t i p l s) (TableAnswered.not_a_table b y q) = not_both p q
    table_answered_unique (TableAnswered.no_core_takes_it t i p l s) (TableAnswered.output_too_short u q r) = short_and_long report u t q p r l
    table_answered_unique (TableAnswered.no_core_takes_it t i p l s) (TableAnswered.no_core_takes_it u j q m r) = refused_alike (returned 6 (suc i)) (returned 6 (suc j)) (ap (λ (x : ℕ). returned 6 (suc x)) (one_stop is-rule p q s r))
    table_answered_unique (TableAnswered.no_core_takes_it t i p l s) (TableAnswered.accepted u others q m d) = not_certified is-rule p q s d
    table_answered_unique (TableAnswered.accepted t all p l c) (TableAnswered.not_a_table b y q) = not_both p q
    table_answered_unique (TableAnswered.accepted t all p l c) (TableAnswered.output_too_short u q r) = short_and_long report u t q p r l
    table_answered_unique (TableAnswered.accepted t all p l c) (TableAnswered.no_core_takes_it u j q m r) = not_certified is-rule q p r c
    table_answered_unique (TableAnswered.accepted t all p l c) (TableAnswered.accepted u others q m d) = both_accepted t u all others (one_table p q) (one_list is-rule p q c d)

  -- what the bench program prints is determined
  pub listed_unique : {text other : List ℕ} → Listed rule bytes text → Listed rule bytes other → text ≡ other
  listed_unique (Listed.not_a_table a x p) (Listed.not_a_table b y q) = let same = one_refusal p q in cc
  listed_unique (Listed.not_a_table a x p) (Listed.no_core_takes_it u j q r) = not_both q p
  listed_unique (Listed.not_a_table a x p) (Listed.accepted u others q d) = not_both q p
  listed_unique (Listed.no_core_takes_it t i p s) (Listed.not_a_table b y q) = not_both p q
  listed_unique (Listed.no_core_takes_it t i p s) (Listed.no_core_takes_it u j q r) = ap (λ (x : ℕ). refusal 6 (suc x)) (one_stop is-rule p q s r)
  listed_unique (Listed.no_core_takes_it t i p s) (Listed.accepted u others q d) = not_certified is-rule p q s d
  listed_unique (Listed.accepted t all p c) (Listed.not_a_table b y q) = not_both p q
  listed_unique (Listed.accepted t all p c) (Listed.no_core_takes_it u j q r) = not_certified is-rule q p r c
  listed_unique (Listed.accepted t all p c) (Listed.accepted u others q d) = ap listing (one_list is-rule p q c d)

  -- so are the answer of the listing and every byte that it is lent
  pub listing_answered_unique : {n m : ℕ} {listing first second : List ℕ} → ListingAnswered rule bytes listing n first → ListingAnswered rule bytes listing m second → (n ≡ m) × (first ≡ second)
  listing_answered_unique {listing = listing} (ListingAnswered.written lines p l) (ListingAnswered.written others q m) =
      let same : lines ≡ others = listed_unique p q in (ap length same, ap (λ (x : List ℕ). filled x listing) same)
  listing_answered_unique (ListingAnswered.written lines p l) (ListingAnswered.too_short others q m) = absurd (omega (arith, ap length (listed_unique p q)))
  listing_answered_unique (ListingAnswered.too_short lines p l) (ListingAnswered.written others q m) = absurd (omega (arith, ap length (listed_unique p q)))
  listing_answered_unique (ListingAnswered.too_short lines p l) (ListingAnswered.too_short others q m) = (refl, refl)
