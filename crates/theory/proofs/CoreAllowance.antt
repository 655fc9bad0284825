-- The allowance of a core, computed and stated, and whether all rows of a set meet, computed and stated. The smallest of the rows' point allowances tells both.
use mathlib.Core.Path.{◌≡◌, sym, subst}
use Prim.Native.Nat.{ℕ, ◌<◌}
use mathlib.Core.List.{List, map}
use native.Mathlib.Nat.{le_antisymm}
use native.Mathlib.Omega.{arith}
use lib.Dec.{T, eqb, eqb_refl}
use lib.IntN.{ℤ, pos, nat_abs}
use lib.ListN.{length}
use lib.Signed.{◌≤ℤ◌, pos-nat_abs, yes_non_neg}
use Rattle.theory.specs.Row.{Row}
use Rattle.theory.specs.Rank.{places, rival}
use Rattle.theory.specs.Response.{load, Meets, AllMeet, Outcome, responds, misses, IsOutcome, in_time, outcome, on_time}
use Rattle.theory.specs.Allowance.{IsCoreAllowance}
use Rattle.theory.specs.Points.{slack, IsPointAllowance, bound, point_allowance, smallest_of, core_allowance}
use Rattle.theory.proofs.Tests.{or_first}
use Rattle.theory.proofs.Each.{all_every, every_all}
use Rattle.theory.proofs.Member.{all_at, all_from, ValueOf, mem_of_map, mem_map}
use Rattle.theory.proofs.Best.{Best}
use Rattle.theory.proofs.Places.{mem_places, place_inside}
use Rattle.theory.proofs.Signed.{≤ℤ-trans, le_pos, slack_left}
use Rattle.theory.proofs.Response.{outcome_right}
use Rattle.theory.proofs.Verdict.{AllSteady, on_time_by_points}
use Rattle.theory.proofs.Bound.{smallest_is, PointFor, bound_is, bound_covers, point_allowance_is, point_allowance_unique}
use Rattle.theory.proofs.Allowance.{allowance_of_points, points_of_allowance, not_negative}

-- a core's allowance is unique
pub core_allowance_unique : (rows : List Row) (a b : ℕ) → IsCoreAllowance rows a → IsCoreAllowance rows b → a ≡ b
core_allowance_unique rows a b p q =
    le_antisymm (p.smallest q.row b q.in_set q.its_allowance) (q.smallest p.row a p.in_set p.its_allowance)

module _ (rows : List Row) (steady : AllSteady rows) where
  -- whether all rows meet, computed, is whether all rows meet
  pub on_time_meets : T (on_time rows) → AllMeet rows
  unfolding on_time
  on_time_meets t k inside =
      go (outcome rows k) (outcome_right rows k (steady k inside).runs)
      (all_at (λ h. T (in_time (outcome rows h))) (mem_places rows k inside) (every_all (λ h. in_time (outcome rows h)) (places rows) t))
    where
      go : (o : Outcome) → IsOutcome rows k o → T (in_time o) → Meets rows k
      go (responds R) is t = record { response = R; is_response = is.0; by_deadline = is.1 }
      go misses is t = absurd t

  pub meets_on_time : AllMeet rows → T (on_time rows)
  unfolding on_time
  meets_on_time all =
      all_every (λ h. in_time (outcome rows h)) (places rows)
      (all_from (places rows) (λ k m. let inside : k < length rows = place_inside rows k m in go k (outcome rows k) (outcome_right rows k (steady k inside).runs) (all k inside)))
    where
      go : (k : ℕ) (o : Outcome) → IsOutcome rows k o → Meets rows k → T (in_time o)
      go k (responds R) is m = tt
      go k misses is m = is m

-- z is the smallest of the point allowances of a core's rows
pub record IsCorePointAllowance (rows : List Row) (z : ℤ) : Type 0 where
  pub row : ℕ
  pub in_set : row < length rows
  pub its_allowance : IsPointAllowance rows row z
  pub smallest : (i : ℕ) (a : ℤ) → i < length rows → IsPointAllowance rows i a → z ≤ℤ a

-- of numbers that are the rows' point allowances, one that is at most each
pub smallest_of_points : (rows : List Row) (of_row : ℕ → ℤ)
    → ((i : ℕ) → i < length rows → IsPointAllowance rows i (of_row i))
    → (k : ℕ)
    → k < length rows
    → ((i : ℕ) → i < length rows → of_row k ≤ℤ of_row i)
    → IsCorePointAllowance rows (of_row k)
smallest_of_points rows of_row are k in_set at_most = record {
  row = k;
  in_set = in_set;
  its_allowance = are k in_set;
  smallest = λ i a inside is-a. subst (λ (y : ℤ). of_row k ≤ℤ y) (point_allowance_unique rows i (of_row i) a (are i inside) is-a) (at_most i inside);
}

module _ (rows : List Row) (steady : AllSteady rows) (z : ℤ) (is-z : IsCorePointAllowance rows z) where
  -- where it is not negative, all rows meet
  pub meets_by_points : pos 0 ≤ℤ z → AllMeet rows
  unfolding slack
  meets_by_points h =
      (on_time_by_points rows steady).1
      (λ k inside.
      let below : z ≤ℤ point_allowance rows k = is-z.smallest k (point_allowance rows k) inside (point_allowance_is rows k inside) in
      let itself = or_first (eqb k k) (rival rows k k) (eqb_refl k) in
      let below-bound : point_allowance rows k ≤ℤ bound rows k k = (point_allowance_is rows k inside).smallest k (bound rows k k) inside itself (bound_is rows k k) in
      let p : PointFor rows k k 0 = (bound_covers rows steady k k inside inside 0 (bound rows k k) (bound_is rows k k)).0
      (≤ℤ-trans (pos 0) z (bound rows k k) h (≤ℤ-trans z (point_allowance rows k) (bound rows k k) below below-bound)) in
      record {
        point = p.point;
        among_points = p.among_points;
        slack_left = (slack_left p.point (load rows k p.point)).1 (omega (arith, p.room));
      })

  module _ (all : AllMeet rows) where
    -- where all rows meet, it is not negative
    pub core_not_negative : pos 0 ≤ℤ z
    core_not_negative = not_negative rows steady is-z.row is-z.in_set all z is-z.its_allowance

    sign : pos (nat_abs z) ≡ z
    sign = pos-nat_abs z (yes_non_neg core_not_negative)

    -- and it is the core's allowance
    pub core_allowance_of_points : IsCoreAllowance rows (nat_abs z)
    core_allowance_of_points = record {
      row = is-z.row;
      in_set = is-z.in_set;
      its_allowance =
          allowance_of_points rows steady is-z.row is-z.in_set all (nat_abs z) (subst (IsPointAllowance rows is-z.row) (sym sign) is-z.its_allowance);
      smallest = λ i b inside is_b.
          le_pos (nat_abs z) b (subst (λ (y : ℤ). y ≤ℤ pos b) (sym sign) (is-z.smallest i (pos b) inside (points_of_allowance rows steady i inside all b is_b)));
    }

-- the computed allowance of a core is the stated one
module _ (rows : List Row) (steady : AllSteady rows) (all : AllMeet rows) (some : 0 < length rows) where
  abbrev allowances : List ℤ
  allowances = map (point_allowance rows) (places rows)

  least : Best (λ x y. y ≤ℤ x) allowances (smallest_of (point_allowance rows 0) allowances)
  least = smallest_is (point_allowance rows 0) allowances (mem_map (point_allowance rows) (mem_places rows 0 some))

  attained : ValueOf (point_allowance rows) (places rows) (smallest_of (point_allowance rows 0) allowances)
  attained = mem_of_map (point_allowance rows) (places rows) least.attained

  computed_smallest : IsCorePointAllowance rows (point_allowance rows attained.at)
  computed_smallest =
      smallest_of_points rows (point_allowance rows) (point_allowance_is rows) attained.at (place_inside rows attained.at attained.among)
      (λ i inside.
      subst (λ (y : ℤ). y ≤ℤ point_allowance rows i) (sym attained.value)
      (least.over_all (point_allowance rows i) (mem_map (point_allowance rows) (mem_places rows i inside))))

  pub core_allowance_is : IsCoreAllowance rows (core_allowance rows)
  unfolding core_allowance
  core_allowance_is =
      core_allowance_of_points rows steady (smallest_of (point_allowance rows 0) allowances) (subst (IsCorePointAllowance rows) attained.value computed_smallest) all
