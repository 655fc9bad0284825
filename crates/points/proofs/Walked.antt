-- The walk over the rivals that the code holds is the row's walk: its points are the row's, and its quotients are the row's for each rival and for itself.
use mathlib.Core.Path.{◌≡◌, refl, sym, ap, ap₂, ◌∙◌, subst}
use Prim.Native.Nat.{ℕ, zero, suc, ◌≤◌, ◌<◌}
use mathlib.Core.List.{List, [], ◌∷◌, map}
use native.Mathlib.Omega.{arith}
use borrow.Author.Tests.{lt-ltb, le-ltb, eq-eqb, ne_eqb}
use lib.Dec.{T}
use lib.IntN.{pos, ◌-ℤ◌}
use lib.ListN.{length, get_or, length-map}
use Rattle.theory.specs.Row.{Row, row_at}
use Rattle.theory.specs.Rank.{rival}
use Rattle.theory.specs.Response.{ceil}
use Rattle.theory.specs.Points.{floor_div, walk, points, slack, times, quotient}
use Rattle.theory.specs.Lists.{Shaped, rows_of}
use Rattle.theory.proofs.At.{each_at}
use Rattle.theory.proofs.Demand.{row_of_place}
use Rattle.theory.proofs.Rank.{rival_irreflexive}
use Rattle.theory.proofs.RowsOf.{row_of_lists}
use Rattle.theory.proofs.Walk.{walk_by_periods}
use Rattle.climbs.specs.Ranking.{ranking_by, rivals_in}
use Rattle.climbs.proofs.ByRank.{levels_of_lists}
use Rattle.climbs.proofs.Load.{rival_entries, load_of_rivals}
use Rattle.walks.specs.Quotients.{divisor_of, quotient_of}
use Rattle.points.proofs.Rivals.{each_is_rival}

module _ (cs ds ts : List ℕ) (shaped : Shaped cs ds ts) where
  abbrev rows : List Row
  rows = rows_of cs ds ts

  -- the row at a place, of the lists' numbers
  row_at_lem : (h : ℕ) → row_at rows h ≡ record { C = get_or cs h 0; D = get_or ds h 0; T = get_or ts h 0 }
  row_at_lem = row_of_lists cs ds ts shaped.as_many_deadlines shaped.as_many_periods

  -- the periods of rows at places, past the last too
  periods_at : (hs : List ℕ) (j : ℕ) → get_or (map (λ h. get_or ts h 0) hs) j 0 ≡ (row_at (map (row_at rows) hs) j).T
  periods_at [] j = refl
  periods_at (h ∷ hs) zero = sym (ap (λ (row : Row). row.T) (row_at_lem h))
  periods_at (h ∷ hs) (suc j) = periods_at hs j

  module _ (k : ℕ) where
    abbrev hs : List ℕ
    hs = rivals_in (ranking_by ds) ds k

    abbrev executions : List ℕ
    executions = rival_entries cs ds k

    abbrev periods : List ℕ
    periods = rival_entries ts ds k

    as_many : length periods ≡ length hs
    as_many = length-map hs (λ h. get_or ts h 0)

    -- the points
    pub points_of_rivals : walk (rows_of executions periods periods) (length executions) (get_or ds k 0) ≡ points rows k
    unfolding points
    points_of_rivals =
        walk_by_periods (rows_of executions periods periods) (map (row_at rows) hs) same (length executions) (get_or ds k 0)
        ∙ ap₂ (λ (n t : ℕ). walk (map (row_at rows) hs) n t) (length-map hs (λ h. get_or cs h 0) ∙ sym (length-map hs (row_at rows))) (sym (ap (λ (row : Row). row.D) (row_at_lem k)))
        ∙ ap (λ (above-k : List Row). walk above-k (length above-k) (row_at rows k).D) (sym (levels_of_lists cs ds ts shaped.as_many_deadlines shaped.as_many_periods k))
      where
        same : (j : ℕ) → (row_at (rows_of executions periods periods) j).T ≡ (row_at (map (row_at rows) hs) j).T
        same j =
            let one_each : length periods ≡ length executions = as_many ∙ sym (length-map hs (λ h. get_or cs h 0)) in
            ap (λ (row : Row). row.T) (row_of_lists executions periods periods one_each one_each j) ∙ periods_at hs j

    -- the quotients, where the divisors are the same
    same_quotient : (i j p : ℕ) → divisor_of periods j p ≡ times rows k i p → quotient_of (get_or cs k 0) executions periods j p ≡ quotient rows k i p
    unfolding quotient_of quotient slack
    same_quotient i j p divisor =
        ap₂ (λ (asked m : ℕ). floor_div (pos p -ℤ pos asked) m) (ap (λ (asked : ℕ → ℕ). asked p) (load_of_rivals cs ds ts shaped k)) divisor

    -- the quotient for a rival
    pub quotient_of_rival : (j p : ℕ) → j < length hs → quotient_of (get_or cs k 0) executions periods j p ≡ quotient rows k (get_or hs j 0) p
    unfolding divisor_of times
    quotient_of_rival j p h = same_quotient (get_or hs j 0) j p (rw (lt-ltb j (length periods) (omega (arith, as_many)), divisor_of, ne_eqb k (get_or hs j 0) another, times) jobs)
      where
        jobs : ceil p (get_or periods j 0) ≡ ceil p (row_at rows (get_or hs j 0)).T
        jobs = ap (ceil p) (periods_at hs j ∙ ap (λ (row : Row). row.T) (row_of_place rows hs j h))

        another : k ≡ get_or hs j 0 → ⊥
        another e =
            rival_irreflexive rows k
            (subst (λ (x : ℕ). T (rival rows x k)) (sym e) (each_at (λ x. (x < length rows) × T (rival rows x k)) hs (each_is_rival cs ds ts shaped k) j h).1)

    -- and for the row itself
    pub quotient_of_row : (j p : ℕ) → length hs ≤ j → quotient_of (get_or cs k 0) executions periods j p ≡ quotient rows k k p
    unfolding divisor_of times
    quotient_of_row j p h = same_quotient k j p (rw (le-ltb j (length periods) (omega (arith, as_many)), divisor_of, eq-eqb k k refl, times) refl)
