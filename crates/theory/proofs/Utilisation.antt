-- Equation (1) follows: a set whose rows all meet has a utilisation of at most one.
use mathlib.Core.Path.{◌≡◌, refl, sym, ap, subst}
use Prim.Native.Nat.{ℕ, ◌+◌, ◌*◌, ◌/◌, ◌≤◌, ◌<◌, zero-le}
use mathlib.Core.Bool.{Bool, true, false}
use mathlib.Core.Logic.{◌⊎◌, inl, inr, ⊎_elim}
use mathlib.Core.List.{List, [], ◌∷◌}
use native.Mathlib.Omega.{arith}
use native.Mathlib.Nat.{le_trans, mul-le-mul_left, div-mul-le_self, le_of_mul-le-mul_right, one-mul}
use lib.Dec.{T}
use lib.ListN.{length}
use Rattle.theory.specs.Row.{Row, row_at}
use Rattle.theory.specs.Gather.{sum, best, up_from}
use Rattle.theory.specs.Rank.{places, above, rival, rivals}
use Rattle.theory.specs.Response.{ceil, demand, load, AllMeet}
use Rattle.theory.specs.Utilisation.{work, AtMostOne}
use Rattle.theory.proofs.Tests.{equal_or_not}
use Rattle.theory.proofs.Ceil.{le_ceil, ceil_one}
use Rattle.theory.proofs.Demand.{ask}
use Rattle.theory.proofs.Each.{T_true, T_false, true_of}
use Rattle.theory.proofs.Member.{all_from}
use Rattle.theory.proofs.Sum.{where_passes, where_passes_true, where_passes_false, sum_keep, sum_eq, sum_le, only, only_there, only_elsewhere, sum_with, sum_of_both, sum_times}
use Rattle.theory.proofs.Order.{up_from_ascending}
use Rattle.theory.proofs.Rank.{above_transitive, above_connected, above_rival, rival_irreflexive}
use Rattle.theory.proofs.Verdict.{AllSteady}
use Rattle.theory.proofs.Best.{Best, best_of_others}
use Rattle.theory.proofs.Places.{mem_places, place_inside}

-- what C asks for at its rate over P, times a response time, is at most what it asks for within the response time, times P
rate : (C T P R : ℕ) → 0 < T → C * (P / T) * R ≤ ceil R T * C * P
rate C T P R h =
    let jobs = ceil R T in
    let enough : (P / T) * R ≤ (P / T) * (jobs * T) = mul-le-mul_left (P / T) (le_ceil R h) in
    let whole : jobs * ((P / T) * T) ≤ jobs * P = mul-le-mul_left jobs (div-mul-le_self P T) in
    let both : (P / T) * R ≤ jobs * P = omega arith in
    omega (arith, mul-le-mul_left C both)

false_of : (b : Bool) → (T b → ⊥) → b ≡ false
false_of true n = absurd (n tt)
false_of false n = refl

module _ (rows : List Row) where
  -- y is k, or ranks above it
  abbrev UpTo : ℕ → ℕ → Type 0
  UpTo y k = (y ≡ k) ⊎ T (above rows y k)

  up_to_lower : (y next z : ℕ) → above rows z next ≡ true → UpTo y z → UpTo y next
  up_to_lower y next z e (inl f) = inr (subst (λ (w : ℕ). T (above rows w next)) (sym f) (T_true (above rows z next) e))
  up_to_lower y next z e (inr a) = inr (above_transitive rows y z next a (T_true (above rows z next) e))

  not_above : (y z : ℕ) → above rows z y ≡ false → UpTo y z
  not_above y z e = ⊎_elim inl (λ d. ⊎_elim inr (λ b. absurd (T_false (above rows z y) e b)) (above_connected rows y z d)) (equal_or_not y z)

  -- the lowest row in rank: every row is it, or ranks above it
  record Lowest : Type 0 where
    row : ℕ
    in_set : row < length rows
    all_up_to : (y : ℕ) → y < length rows → UpTo y row

  lowest : 0 < length rows → Lowest
  lowest some = record {
    row = l;
    in_set = place_inside rows l b.attained;
    all_up_to = λ y h. b.over_all y (mem_places rows y h);
  }
    where
      l : ℕ
      l = best (λ next first. above rows first next) 0 (places rows)

      b : Best UpTo (places rows) l
      b = best_of_others (λ next first. above rows first next) UpTo (λ y. inl refl) up_to_lower not_above 0 (places rows) (mem_places rows 0 some)

  module _ (steady : AllSteady rows) (all : AllMeet rows) (low : Lowest) where
    abbrev k : ℕ
    k = low.row

    abbrev R : ℕ
    R = (all low.row low.in_set).response

    asked : ℕ → ℕ
    asked h = ask (row_at rows h) R

    -- the lowest row apart, all rows are its rivals
    apart : (h : ℕ) → UpTo h k → asked h ≡ where_passes (λ x. rival rows x k) asked h + only k (asked k) h
    apart h (inl e) =
        omega (
          arith,
          ap asked e,
          only_there k (asked k) h e,
          where_passes_false (λ x. rival rows x k) asked h (false_of (rival rows h k) (λ t. rival_irreflexive rows k (subst (λ (x : ℕ). T (rival rows x k)) e t))),
        )
    apart h (inr a) =
        omega (
          arith,
          where_passes_true (λ x. rival rows x k) asked h (true_of (rival rows h k) (above_rival rows h k a)),
          only_elsewhere k (asked k) h (λ e. rival_irreflexive rows k (subst (λ (x : ℕ). T (rival rows x k)) e (above_rival rows h k a))),
        )

    -- within the lowest row's response time all rows together ask for just that time
    all_ask : sum asked (places rows) ≡ R
    unfolding asked load demand rivals
    all_ask =
        omega (
          arith,
          sum_eq asked (λ h. where_passes (λ x. rival rows x k) asked h + only k (asked k) h) (places rows) (all_from (places rows) (λ h m. apart h (low.all_up_to h (place_inside rows h m)))),
          sum_of_both (where_passes (λ x. rival rows x k) asked) (only k (asked k)) (places rows),
          sum_keep (λ x. rival rows x k) asked (places rows),
          sum_with k (asked k) (mem_places rows k low.in_set) (up_from_ascending 0 (length rows)),
          ap (λ (n : ℕ). n * (row_at rows k).C) (ceil_one R (all k low.in_set).is_response.at_least_one (le_trans (all k low.in_set).by_deadline (steady k low.in_set).by_period)),
          one-mul (row_at rows k).C,
          (all k low.in_set).is_response.solves,
        )

    lowest_at_most_one : (P : ℕ) → work rows P ≤ P
    unfolding work asked
    lowest_at_most_one P =
        le_of_mul-le-mul_right
        (omega (
          arith,
          sum_times (λ (h : ℕ). (row_at rows h).C * (P / (row_at rows h).T)) R (places rows),
          sum_le (λ h. (row_at rows h).C * (P / (row_at rows h).T) * R) (λ h. asked h * P) (places rows)
              (all_from (places rows) (λ h m. rate (row_at rows h).C (row_at rows h).T P R (period_positive h (place_inside rows h m)))),
          sum_times asked P (places rows),
          ap (λ (n : ℕ). n * P) all_ask,
        ))
        (all k low.in_set).is_response.at_least_one
      where
        period_positive : (h : ℕ) → h < length rows → 0 < (row_at rows h).T
        period_positive h inside = omega (arith, (steady h inside).some_deadline, (steady h inside).by_period)

-- EQUATION (1) FOLLOWS
pub utilisation_at_most_one : (rows : List Row) → AllSteady rows → AllMeet rows → AtMostOne rows
unfolding work sum up_from
utilisation_at_most_one [] steady all P common = zero-le
utilisation_at_most_one (row ∷ rows) steady all P common = lowest_at_most_one (row ∷ rows) steady all (lowest (row ∷ rows) (omega arith)) P
