-- A list service answers alike on lent lists that are cut to 24 numbers: of a lent list it only matters whether there is a place for each row.
use mathlib.Core.Path.{◌≡◌, refl, ◌∙◌}
use Prim.Native.Nat.{ℕ, min, ◌≤◌, ◌<◌}
use mathlib.Core.Logic.{◌⊎◌, inl, inr}
use mathlib.Core.List.{List}
use native.Mathlib.Omega.{arith}
use lib.ListN.{length, take, drop}
use lib.Seq.{take_at}
use Rattle.theory.specs.Returned.{Returned, returned}
use Rattle.theory.specs.Row.{Row}
use Rattle.theory.specs.Lists.{Shaped, filled, Answered, rows_out_of_range, row_breaks_limits, output_too_short, row_misses, accepted}
use Rattle.theory.proofs.RowsOf.{rows_of_length}

-- the service's result on the lists that are cut
pub record CutAnswered (Allowance : List Row → ℕ → ℕ → Type 0) (cs ds ts responses allowances : List ℕ) (returns : Returned) (Rs As : List ℕ) : Type 0 where
  pub cut_responses : List ℕ
  pub cut_allowances : List ℕ
  pub responses_cut : length cut_responses ≡ min 24 (length responses)
  pub allowances_cut : length cut_allowances ≡ min 24 (length allowances)
  pub responses_kept : length Rs ≡ length cut_responses
  pub allowances_kept : length As ≡ length cut_allowances
  pub answered : Answered Allowance cs ds ts cut_responses cut_allowances returns Rs As

-- an accepted call on the lists themselves, from the numbers that it left there: each list has a place for each row
pub record AcceptedAlike (Allowance : List Row → ℕ → ℕ → Type 0) (cs ds ts responses allowances Rs As : List ℕ) : Type 0 where
  pub answered : Answered Allowance cs ds ts responses allowances (returned 0 0) (filled (take (length cs) Rs) responses) (filled (take (length cs) As) allowances)
  pub no_25th : length cs ≤ 24
  pub responses_inside : length cs ≤ length responses
  pub allowances_inside : length cs ≤ length allowances

module _
    {Allowance : List Row → ℕ → ℕ → Type 0}
    {cs ds ts responses allowances : List ℕ}
    {returns : Returned}
    {Rs As : List ℕ}
    (cut : CutAnswered Allowance cs ds ts responses allowances returns Rs As) where
  abbrev OnCut : Returned → List ℕ → List ℕ → Type 0
  OnCut = Answered Allowance cs ds ts cut.cut_responses cut.cut_allowances

  too_short : Shaped cs ds ts → (length cut.cut_responses < length cs) ⊎ (length cut.cut_allowances < length cs) → (length responses < length cs) ⊎ (length allowances < length cs)
  too_short shaped (inl h) = inl (omega arith)
  too_short shaped (inr h) = inr (omega arith)

  -- a refusal there is one on the lists themselves
  pub refused_alike : (returns.number ≡ 0 → ⊥) → Answered Allowance cs ds ts responses allowances returns responses allowances
  refused_alike = go cut.answered
    where
      go : {returns : Returned} {Rs As : List ℕ} → OnCut returns Rs As → (returns.number ≡ 0 → ⊥) → Answered Allowance cs ds ts responses allowances returns responses allowances
      go (rows_out_of_range n) refused = rows_out_of_range n
      go (row_breaks_limits k s f) refused = row_breaks_limits k s f
      go (output_too_short s w o) refused = output_too_short s w (too_short s o)
      go (row_misses k s w r a m) refused = row_misses k s w (omega arith) (omega arith) m
      go (accepted Rs As s w r a all is-R is-A) refused = absurd (refused refl)

  -- an accepted call there leaves the numbers for the lists themselves
  pub accepted_alike : returns.number ≡ 0 → AcceptedAlike Allowance cs ds ts responses allowances Rs As
  accepted_alike = go cut.answered
    where
      go : {returns : Returned} {Rs As : List ℕ} → OnCut returns Rs As → returns.number ≡ 0 → AcceptedAlike Allowance cs ds ts responses allowances Rs As
      go (rows_out_of_range n) none = absurd (omega arith)
      go (row_breaks_limits k s f) none = absurd (omega arith)
      go (output_too_short s w o) none = absurd (omega arith)
      go (row_misses k s w r a m) none = absurd (omega arith)
      go (accepted Rs As s w r a all is-R is-A) none =
          let many = rows_of_length cs ds ts s.as_many_deadlines s.as_many_periods in
          record {
            answered = rw (
              take_at Rs (drop (length Rs) cut.cut_responses) (length cs) (is-R.one_each ∙ many),
              take_at As (drop (length As) cut.cut_allowances) (length cs) (is-A.one_each ∙ many),
            )
                (accepted Rs As s w (omega arith) (omega arith) all is-R is-A);
            no_25th = s.no_25th;
            responses_inside = omega arith;
            allowances_inside = omega arith;
          }
