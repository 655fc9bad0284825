-- Demand 3, second half: where all rows are on time, the point formula gives every row its allowance. One theorem carries it: with a more in row i
-- all rows meet exactly when a is at most the point allowance.
use mathlib.Core.Path.{◌≡◌, refl, sym, subst}
use Prim.Native.Nat.{ℕ, ◌≤◌, ◌<◌}
use mathlib.Core.Bool.{Bool, true, false}
use mathlib.Core.Logic.{◌↔◌}
use mathlib.Core.List.{List, Memᴰ}
use native.Mathlib.Omega.{arith}
use native.Mathlib.Nat.{le_antisymm, zero-mul}
use lib.Dec.{T}
use lib.IntN.{ℤ, pos}
use lib.ListN.{length}
use lib.Signed.{◌≤ℤ◌, ≤ℤ_refl, pos-nat_abs, yes_non_neg}
use Rattle.theory.specs.Row.{Row, row_at}
use Rattle.theory.specs.Response.{load, AllMeet}
use Rattle.theory.specs.Allowance.{raised, IsAllowance}
use Rattle.theory.specs.Points.{points, slack, HasPoint, times, touches, IsPointAllowance, bound, point_allowance, allowance}
use Rattle.theory.proofs.Each.{T_true, T_false}
use Rattle.theory.proofs.Signed.{≤ℤ-trans, slack_left, le_pos}
use Rattle.theory.proofs.Verdict.{Steady, AllSteady, on_time_by_points}
use Rattle.theory.proofs.Raise.{raised_in_set, raised_row, points_stay, load_of_touched, load_of_untouched}
use Rattle.theory.proofs.Bound.{PointFor, bound_is, bound_covers, point_allowance_is}

-- an allowance is unique
pub allowance_unique : (rows : List Row) (i a b : ℕ) → IsAllowance rows i a → IsAllowance rows i b → a ≡ b
allowance_unique rows i a b p q = le_antisymm (q.largest a p.all_meet) (p.largest b q.all_meet)

module _ (rows : List Row) (steady : AllSteady rows) (i : ℕ) (inside : i < length rows) where
  pub raised_steady : (a : ℕ) → AllSteady (raised rows i a)
  raised_steady a h l =
      let s : Steady (row_at rows h) = steady h ((raised_in_set rows i a).0 l) in
      subst Steady (sym (raised_row rows i a inside h))
      (record { runs = omega (arith, s.runs); some_deadline = s.some_deadline; by_period = s.by_period })

  -- a point of row k at which the raised load fits is a point of non-negative slack of the raised set, and the other way round
  raised_point : (a k p : ℕ) → Memᴰ p (points rows k) → load (raised rows i a) k p ≤ p → HasPoint (raised rows i a) k
  unfolding slack
  raised_point a k p m h = record {
    point = p;
    among_points = subst (Memᴰ p) (sym (points_stay rows i a inside k)) m;
    slack_left = (slack_left p (load (raised rows i a) k p)).1 h;
  }

  pub point_for : (a k : ℕ) → T (touches rows i k) → HasPoint (raised rows i a) k → PointFor rows k i a
  unfolding slack
  point_for a k t p = record {
    point = p.point;
    among_points = subst (Memᴰ p.point) (points_stay rows i a inside k) p.among_points;
    room = omega (arith, (slack_left p.point (load (raised rows i a) k p.point)).0 p.slack_left, load_of_touched rows i a inside k p.point t);
  }

  pub point_of_raised : (a k : ℕ) → T (touches rows i k) → PointFor rows k i a → HasPoint (raised rows i a) k
  point_of_raised a k t q = raised_point a k q.point q.among_points (omega (arith, q.room, load_of_touched rows i a inside k q.point t))

  module _ (all_meet : AllMeet rows) (z : ℤ) (is-z : IsPointAllowance rows i z) where
    -- each row of the set raised by no more than the point allowance has a point
    has_point : (a : ℕ) → pos a ≤ℤ z → (k : ℕ) → k < length rows → HasPoint (raised rows i a) k
    unfolding slack
    has_point a h k in_set = go (touches rows i k) refl
      where
        go : (b : Bool) → touches rows i k ≡ b → HasPoint (raised rows i a) k
        go true e =
            let t : T (touches rows i k) = T_true (touches rows i k) e in
            point_of_raised a k t
            ((bound_covers rows steady k i in_set inside a (bound rows k i) (bound_is rows k i)).0
            (≤ℤ-trans (pos a) z (bound rows k i) h (is-z.smallest k (bound rows k i) in_set t (bound_is rows k i))))
        go false e =
            let p : HasPoint rows k = (on_time_by_points rows steady).0 all_meet k in_set in
            raised_point a k p.point p.among_points
            (omega (
              arith,
              (slack_left p.point (load rows k p.point)).0 p.slack_left,
              load_of_untouched rows i a inside k p.point (T_false (touches rows i k) e),
            ))

    -- THE ALLOWANCE THEOREM
    pub all_meet_with : (a : ℕ) → AllMeet (raised rows i a) ↔ (pos a ≤ℤ z)
    all_meet_with a = (
      λ all.
          (bound_covers rows steady is-z.row i is-z.in_set inside a z is-z.its_bound).1
          (point_for a is-z.row is-z.touched ((on_time_by_points (raised rows i a) (raised_steady a)).0 all is-z.row ((raised_in_set rows i a).1 is-z.in_set))),
      λ h. (on_time_by_points (raised rows i a) (raised_steady a)).1 (λ k in_set. has_point a h k ((raised_in_set rows i a).0 in_set)),
    )

    -- and it is no negative number
    pub not_negative : pos 0 ≤ℤ z
    unfolding slack
    not_negative =
        let p : HasPoint rows is-z.row = (on_time_by_points rows steady).0 all_meet is-z.row is-z.in_set in
        (bound_covers rows steady is-z.row i is-z.in_set inside 0 z is-z.its_bound).1
        (record {
          point = p.point;
          among_points = p.among_points;
          room = omega (
            arith,
            (slack_left p.point (load rows is-z.row p.point)).0 p.slack_left,
            zero-mul (times rows is-z.row i p.point),
          );
        })

  module _ (all_meet : AllMeet rows) where
    -- the point allowance is the allowance
    pub allowance_of_points : (a : ℕ) → IsPointAllowance rows i (pos a) → IsAllowance rows i a
    allowance_of_points a is-a = record {
      all_meet = (all_meet_with all_meet (pos a) is-a a).1 (≤ℤ_refl (pos a));
      largest = λ b all. le_pos b a ((all_meet_with all_meet (pos a) is-a b).0 all);
    }

    computed_sign : pos (allowance rows i) ≡ point_allowance rows i
    unfolding allowance
    computed_sign = pos-nat_abs (point_allowance rows i) (yes_non_neg (not_negative all_meet (point_allowance rows i) (point_allowance_is rows i inside)))

    computed_is_point : IsPointAllowance rows i (pos (allowance rows i))
    computed_is_point = subst (IsPointAllowance rows i) (sym computed_sign) (point_allowance_is rows i inside)

    -- the computed allowance is the allowance
    pub allowance_is : IsAllowance rows i (allowance rows i)
    allowance_is = allowance_of_points (allowance rows i) computed_is_point

    -- and the allowance is the point allowance
    pub points_of_allowance : (a : ℕ) → IsAllowance rows i a → IsPointAllowance rows i (pos a)
    points_of_allowance a is-a =
        subst (λ (b : ℕ). IsPointAllowance rows i (pos b)) (allowance_unique rows i (allowance rows i) a allowance_is is-a) computed_is_point
