-- A report holds its figures whole: no other figures have the same report on the same table.
use mathlib.Core.Path.{◌≡◌, refl, ap}
use Prim.Native.Nat.{ℕ, suc, ◌^◌, ◌<◌}
use mathlib.Core.List.{List, [], ◌∷◌, ◌++◌, flat_map}
use native.Mathlib.Omega.{arith}
use lib.ListN.{length, drop}
use lib.Seq.{drop-append_seam}
use Rattle.placement.specs.Core.{Table}
use Rattle.placement.specs.Figures.{Figures, figures_at}
use Rattle.records.specs.Number.{four_bytes}
use Rattle.records.specs.Report.{figures_record, table_records, report_bytes}
use Rattle.records.proofs.Number.{number_reads_back}

-- figures that a kind 3 record holds: response time and allowance in four bytes each
pub record FitRecord (figures : Figures) : Type 0 where
  pub response_below : figures.response < 2 ^ 32
  pub allowance_below : figures.allowance < 2 ^ 32

-- figures that kind 3 records hold, for each row
abbrev pub AllFitRecord : List Figures → Type 0
AllFitRecord all = (i : ℕ) → i < length all → FitRecord (figures_at all i)

-- numbers below 2^32 with the same bytes are the same
same_number : (m n : ℕ) → m < 2 ^ 32 → n < 2 ^ 32 → four_bytes m ≡ four_bytes n → m ≡ n
same_number m n m-below n-below same = cc (number_reads_back m m-below, number_reads_back n n-below)

-- the figures of two kind 3 records that begin the same bytes are the same
same_figures : (x y : Figures) (after other : List ℕ) → FitRecord x → FitRecord y → figures_record x ++ after ≡ figures_record y ++ other → x ≡ y
unfolding four_bytes
same_figures x y after other x_fits y-fits same =
    let cores : x.core ≡ y.core = cc in
    let responses : four_bytes x.response ≡ four_bytes y.response = cc in
    let allowances : four_bytes x.allowance ≡ four_bytes y.allowance = cc in
    λ i. record {
      core = cores i;
      response = same_number x.response y.response x_fits.response_below y-fits.response_below responses i;
      allowance = same_number x.allowance y.allowance x_fits.allowance_below y-fits.allowance_below allowances i;
    }

-- kind 3 records before a kind 4 are of one list of figures only: the kind tells where they end
records_determine_figures :
    (all others : List Figures) (count : ℕ) → AllFitRecord all → AllFitRecord others
    → flat_map figures_record all ++ (4 ∷ count ∷ []) ≡ flat_map figures_record others ++ (4 ∷ count ∷ [])
    → all ≡ others
unfolding flat_map four_bytes
records_determine_figures [] [] count fit others-fit same = refl
records_determine_figures [] (y ∷ ys) count fit others-fit same = absurd (let z : ◌≡◌ {A = ℕ} 4 3 = cc in omega arith)
records_determine_figures (x ∷ xs) [] count fit others-fit same = absurd (let z : ◌≡◌ {A = ℕ} 3 4 = cc in omega arith)
records_determine_figures (x ∷ xs) (y ∷ ys) count fit others-fit same =
    cc (
      same_figures x y _ _ (fit 0 (omega arith)) (others-fit 0 (omega arith)) same,
      records_determine_figures xs ys count (λ i inside. fit (suc i) (omega arith)) (λ i inside. others-fit (suc i) (omega arith)) (ap (drop 10) same),
    )

-- two lists of figures with the same report on a table are the same
pub report_determines_figures :
    (t : Table) (all others : List Figures) → AllFitRecord all → AllFitRecord others → report_bytes t all ≡ report_bytes t others → all ≡ others
unfolding report_bytes
report_determines_figures t all others fit others-fit same =
    records_determine_figures all others (length t.rows) fit others-fit
    (simp drop-append_seam at (ap (drop (length (table_records t))) same))
