-- The rows at the fronts of three arrays: how many they are, and one more.
use mathlib.Core.Path.{◌≡◌, refl, ap, ◌∙◌}
use Prim.Native.Nat.{ℕ, ◌+◌, ◌≤◌, ◌<◌}
use mathlib.Core.List.{List, [], ◌∷◌, ◌++◌}
use native.Mathlib.Omega.{arith}
use native.Mathlib.Numerals.{add-one}
use lib.ListN.{length, take, set, length-set}
use lib.Seq.{take-suc-set, length-take-le}
use Rattle.theory.specs.Row.{Row}
use Rattle.theory.specs.Lists.{Shaped, rows_of}
use Rattle.theory.proofs.RowsOf.{rows_of_length}
use Rattle.rows.specs.Held.{held_rows, Held}
use Rattle.rows.specs.Values.{rows_at_fronts}
use Rattle.rows.specs.declared.held.HeldRows.{HeldRows}

-- three lists with one number more are one row more
pub rows_of_snoc :
    (cs ds ts : List ℕ) (c d t : ℕ) → length ds ≡ length cs → length ts ≡ length cs
    → rows_of (cs ++ (c ∷ [])) (ds ++ (d ∷ [])) (ts ++ (t ∷ [])) ≡ rows_of cs ds ts ++ (record { C = c; D = d; T = t } ∷ [])
unfolding rows_of
rows_of_snoc [] [] [] c d t same-d same-t = refl
rows_of_snoc [] [] (y ∷ ts) c d t same-d same-t = absurd (omega arith)
rows_of_snoc [] (x ∷ ds) ts c d t same-d same-t = absurd (omega arith)
rows_of_snoc (e ∷ cs) [] ts c d t same-d same-t = absurd (omega arith)
rows_of_snoc (e ∷ cs) (x ∷ ds) [] c d t same-d same-t = absurd (omega arith)
rows_of_snoc (e ∷ cs) (x ∷ ds) (y ∷ ts) c d t same-d same-t =
    ap (λ (rows : List Row). record { C = e; D = x; T = y } ∷ rows) (rows_of_snoc cs ds ts c d t (omega arith) (omega arith))

module _ (c d t : List ℕ) (n : ℕ) (held : Held n c d t) where
  -- as many numbers at each front as rows
  fronts : (length (take n c) ≡ n) × (length (take n d) ≡ n) × (length (take n t) ≡ n)
  fronts =
      (length-take-le n c (omega arith), length-take-le n d (omega arith), length-take-le n t (omega arith))

  pub held_rows_many : length (held_rows n c d t) ≡ n
  held_rows_many = rows_of_length (take n c) (take n d) (take n t) (omega (arith, fronts)) (omega (arith, fronts)) ∙ fronts.0

  -- where there is a row, the fronts are lists of rows
  pub held_shaped : 1 ≤ n → Shaped (take n c) (take n d) (take n t)
  held_shaped some = record {
    some_row = omega (arith, fronts);
    no_25th = omega (arith, held, fronts);
    as_many_deadlines = omega (arith, fronts);
    as_many_periods = omega (arith, fronts);
  }

  module _ (inside : n < 24) (execution deadline period : ℕ) where
    -- a row stored behind them is held too
    pub held_one_more : Held (n + 1) (set c n execution) (set d n deadline) (set t n period)
    held_one_more = record {
      no_25th_row = omega arith;
      c_long = length-set c n execution ∙ held.c_long;
      d_long = length-set d n deadline ∙ held.d_long;
      t_long = length-set t n period ∙ held.t_long;
    }

    pub held_rows_one_more : held_rows (n + 1) (set c n execution) (set d n deadline) (set t n period) ≡ held_rows n c d t ++ (record { C = execution; D = deadline; T = period } ∷ [])
    held_rows_one_more =
        rw (add-one n, take-suc-set c n execution (omega arith), take-suc-set d n deadline (omega arith), take-suc-set t n period (omega arith))
        (rows_of_snoc (take n c) (take n d) (take n t) execution deadline period (omega (arith, fronts)) (omega (arith, fronts)))

-- as many rows as are counted
pub many_at_fronts : (held : HeldRows) → length (rows_at_fronts held) ≡ held.n
many_at_fronts held = held_rows_many held.c held.d held.t held.n held.held
