-- The test of a row's limits on the numbers of three lists.
use mathlib.Core.Path.{◌≡◌, sym, subst}
use Prim.Native.Nat.{ℕ, suc, ◌≤◌, ◌<◌}
use mathlib.Core.Bool.{true, false}
use mathlib.Core.List.{List}
use native.Mathlib.Omega.{arith}
use lib.ListN.{length, get_or}
use Rattle.std.proofs.Common.{Err, Option, Some, None, MatchOption}
use Rattle.answers.specs.declared.Refusal.TheVariants.{RowBreaksLimits}
use Rattle.theory.specs.Row.{Row, row_at, within_limits, WithinLimits, AllWithin, FirstBroken}
use Rattle.theory.specs.Lists.{rows_of, Shaped}
use Rattle.theory.proofs.Limits.{passing_keeps_limits, keeping_limits_passes}
use Rattle.theory.proofs.RowsOf.{rows_of_length, row_of_lists}
use Rattle.rows.specs.declared.RowLists.{RowLists}
use Rattle.rows.specs.Values.{rows_listed}
use Rattle.refusals.specs.Checked.{Checked, row_breaks_limits}

module _ (lists : RowLists) (k : ℕ) where
  -- the row that stands at a place
  abbrev numbers_at : Row
  numbers_at = record { C = get_or lists.c.now k 0; D = get_or lists.d.now k 0; T = get_or lists.t.now k 0 }

  same_row : row_at (rows_listed lists) k ≡ numbers_at
  same_row = row_of_lists lists.c.now lists.d.now lists.t.now lists.as_many_deadlines lists.as_many_periods k

  pub passing_row : within_limits numbers_at ≡ true → WithinLimits (row_at (rows_listed lists) k)
  passing_row e = subst WithinLimits (sym same_row) (passing_keeps_limits numbers_at e)

  pub failing_row : within_limits numbers_at ≡ false → WithinLimits (row_at (rows_listed lists) k) → ⊥
  failing_row e keeps =
      let passes : within_limits numbers_at ≡ true = keeping_limits_passes numbers_at (subst WithinLimits same_row keeps) in
      let z : ◌≡◌ {A = ℕ} 0 1 = cc in
      omega arith

module _ (lists : RowLists) where
  -- as many rows as numbers
  pub as_many_rows : length (rows_listed lists) ≡ length lists.c.now
  as_many_rows = rows_of_length lists.c.now lists.d.now lists.t.now lists.as_many_deadlines lists.as_many_periods

  -- a place within the lists, after rows that keep the limits, that breaks them is the first
  pub broken_at : (k : ℕ) → k < length lists.c.now
      → ((h : ℕ) → h < k → WithinLimits (row_at (rows_listed lists) h))
      → (WithinLimits (row_at (rows_listed lists) k) → ⊥)
      → FirstBroken (rows_listed lists) k
  broken_at k inside earlier breaks = record { in_table = omega (arith, as_many_rows); breaks = breaks; earlier_keep = earlier }

  -- what a search from the front finds
  pub first_found : (found : Option ℕ)
      → MatchOption found ((k : ℕ) → 0 ≤ k → k < length lists.c.now → WithinLimits (row_at (rows_listed lists) k))
      (λ i. (0 ≤ i) × (i < length lists.c.now) × (WithinLimits (row_at (rows_listed lists) i) → ⊥) × ((k : ℕ) → 0 ≤ k → k < i → WithinLimits (row_at (rows_listed lists) k)))
      → MatchOption found (AllWithin (rows_listed lists)) (FirstBroken (rows_listed lists))
  first_found None each = λ k inside. each k (omega arith) (omega (arith, as_many_rows))
  first_found (Some i) (from_0, inside, breaks, earlier) = broken_at i inside (λ h before. earlier h (omega arith) before) breaks

-- in three lists of one length
module _ (cs ds ts : List ℕ) (as_many_deadlines : length ds ≡ length cs) (as_many_periods : length ts ≡ length cs) where
  -- the first that breaks them is one of the rows that C has
  pub broken_in_set : {k : ℕ} → FirstBroken (rows_of cs ds ts) k → k < length cs
  broken_in_set first = omega (arith, first.in_table, rows_of_length cs ds ts as_many_deadlines as_many_periods)

  -- it is refused by its number
  pub by_number : {responses allowances number k : ℕ} → length cs ≤ 24 → FirstBroken (rows_of cs ds ts) k → number ≡ suc k
      → Checked cs ds ts responses allowances (Err (RowBreaksLimits number))
  by_number few first its_number =
      let shaped : Shaped cs ds ts = record { some_row = omega (arith, broken_in_set first); no_25th = few; as_many_deadlines = as_many_deadlines; as_many_periods = as_many_periods } in
      rw its_number (row_breaks_limits _ shaped first)
