-- Bounds and point allowances: the computed ones are the stated ones, they are unique, and a number is at most a bound exactly when some point
-- has room for it.
use mathlib.Core.Path.{◌≡◌, refl, sym, subst}
use Prim.Native.Nat.{ℕ, ◌+◌, ◌*◌, ◌≤◌, ◌<◌}
use mathlib.Core.Bool.{Bool, true, false}
use mathlib.Core.Logic.{◌↔◌}
use mathlib.Core.List.{List, map, Memᴰ}
use native.Mathlib.Omega.{arith}
use lib.Dec.{T, eqb, eqb_refl}
use lib.IntN.{ℤ, pos}
use lib.ListN.{length}
use lib.Signed.{le_z, ◌≤ℤ◌, ≤ℤ_refl}
use Rattle.theory.specs.Row.{Row, row_at}
use Rattle.theory.specs.Gather.{keep}
use Rattle.theory.specs.Rank.{places, rival, levels}
use Rattle.theory.specs.Response.{load}
use Rattle.theory.specs.Points.{points, slack, times, quotient, greatest_of, smallest_of, touches, IsBound, IsPointAllowance, bound, point_allowance}
use Rattle.theory.proofs.Tests.{or_first}
use Rattle.theory.proofs.Each.{all_kept}
use Rattle.theory.proofs.Member.{all_at, mem_keep, ValueOf, mem_of_map, mem_map}
use Rattle.theory.proofs.Best.{Best, best_of_others}
use Rattle.theory.proofs.Places.{places_inside, mem_places}
use Rattle.theory.proofs.Ceil.{ceil_positive}
use Rattle.theory.proofs.Walk.{walk_start, walk_positive}
use Rattle.theory.proofs.Signed.{≤ℤ-trans, ≤ℤ-antisymm, leZ_fails, leZ_passes, quotient_covers}
use Rattle.theory.proofs.Verdict.{AllSteady}

-- the greatest of a first number and others, the first among them
greatest_is : (first : ℤ) (others : List ℤ) → Memᴰ first others → Best ◌≤ℤ◌ others (greatest_of first others)
greatest_is = best_of_others (λ next first. le_z first next) ◌≤ℤ◌ ≤ℤ_refl (λ y next z e h. ≤ℤ-trans y z next h (leZ_passes z next e)) (λ next z. leZ_fails z next)

-- the smallest of a first number and others, the first among them
pub smallest_is : (first : ℤ) (others : List ℤ) → Memᴰ first others → Best (λ y z. z ≤ℤ y) others (smallest_of first others)
smallest_is = best_of_others (λ next first. le_z next first) (λ y z. z ≤ℤ y) ≤ℤ_refl (λ y next z e h. ≤ℤ-trans next z y (leZ_passes next z e) h) leZ_fails

module _ (rows : List Row) where
  -- the computed bound is the stated one
  pub bound_is : (k i : ℕ) → IsBound rows k i (bound rows k i)
  unfolding bound points
  bound_is k i =
      let at-deadline : Memᴰ (row_at rows k).D (points rows k) = walk_start (levels rows k) (length (levels rows k)) (row_at rows k).D in
      let g = greatest_is (quotient rows k i (row_at rows k).D) (map (quotient rows k i) (points rows k)) (mem_map (quotient rows k i) at-deadline) in
      let v : ValueOf (quotient rows k i) (points rows k) (bound rows k i) = mem_of_map (quotient rows k i) (points rows k) g.attained in
      record {
        point = v.at;
        among_points = v.among;
        its_quotient = v.value;
        greatest = λ p m. g.over_all (quotient rows k i p) (mem_map (quotient rows k i) m);
      }

  -- a bound is unique
  pub bound_unique : (k i : ℕ) (b c : ℤ) → IsBound rows k i b → IsBound rows k i c → b ≡ c
  bound_unique k i b c p q = ≤ℤ-antisymm b c (below b c p q) (below c b q p)
    where
      below : (b c : ℤ) → IsBound rows k i b → IsBound rows k i c → b ≤ℤ c
      below b c p q = subst (λ (z : ℤ). z ≤ℤ c) p.its_quotient (q.greatest p.point p.among_points)

  -- the computed point allowance is the stated one
  pub point_allowance_is : (i : ℕ) → i < length rows → IsPointAllowance rows i (point_allowance rows i)
  unfolding point_allowance
  point_allowance_is i inside =
      let of_row : ℕ → ℤ = λ k. bound rows k i in
      let touched-rows = keep (touches rows i) (places rows) in
      let itself = mem_keep (touches rows i) (mem_places rows i inside) (or_first (eqb i i) (rival rows i i) (eqb_refl i)) in
      let s = smallest_is (bound rows i i) (map of_row touched-rows) (mem_map of_row itself) in
      let v : ValueOf of_row touched-rows (point_allowance rows i) = mem_of_map of_row touched-rows s.attained in
      let touched = all_at (λ k. (k < length rows) × T (touches rows i k)) v.among (all_kept (λ k. k < length rows) (touches rows i) (places rows) (places_inside rows)) in
      record {
        row = v.at;
        in_set = touched.0;
        touched = touched.1;
        its_bound = subst (IsBound rows v.at i) v.value (bound_is v.at i);
        smallest = λ k b in_set t is_bound.
            subst (λ (z : ℤ). point_allowance rows i ≤ℤ z) (bound_unique k i (bound rows k i) b (bound_is k i) is_bound)
            (s.over_all (bound rows k i) (mem_map of_row (mem_keep (touches rows i) (mem_places rows k in_set) t)));
      }

  -- a point allowance is unique
  pub point_allowance_unique : (i : ℕ) (a b : ℤ) → IsPointAllowance rows i a → IsPointAllowance rows i b → a ≡ b
  point_allowance_unique i a b p q =
      ≤ℤ-antisymm a b (p.smallest q.row b q.in_set q.touched q.its_bound) (q.smallest p.row a p.in_set p.touched p.its_bound)

  -- a point of row k with room for a more in row i
  pub record PointFor (k i a : ℕ) : Type 0 where
    pub point : ℕ
    pub among_points : Memᴰ point (points rows k)
    pub room : load rows k point + a * times rows k i point ≤ point

  module _ (steady : AllSteady rows) (k i : ℕ) (in_set : k < length rows) (inside : i < length rows) where
    times_positive : (p : ℕ) → Memᴰ p (points rows k) → 0 < times rows k i p
    unfolding times points
    times_positive p m = go (eqb k i) refl
      where
        go : (b : Bool) → eqb k i ≡ b → 0 < times rows k i p
        go true e = rw (e, times) (omega arith)
        go false e =
            rw (e, times)
            (ceil_positive p (omega (arith, (steady i inside).some_deadline, (steady i inside).by_period))
            (walk_positive (levels rows k) (length (levels rows k)) (row_at rows k).D p (steady k in_set).some_deadline m))

    -- a number is at most the quotient at a point exactly when the point has room for it
    pub quotient_has_room : (a p : ℕ) → Memᴰ p (points rows k) → (pos a ≤ℤ quotient rows k i p) ↔ (load rows k p + a * times rows k i p ≤ p)
    unfolding quotient slack
    quotient_has_room a p m = quotient_covers p (load rows k p) a (times rows k i p) (times_positive p m)

    -- and at most the bound exactly when some point has room for it
    pub bound_covers : (a : ℕ) (b : ℤ) → IsBound rows k i b → (pos a ≤ℤ b) ↔ PointFor k i a
    bound_covers a b is_bound = (
      λ h. record {
        point = is_bound.point;
        among_points = is_bound.among_points;
        room = (quotient_has_room a is_bound.point is_bound.among_points).0 (subst (λ (z : ℤ). pos a ≤ℤ z) (sym is_bound.its_quotient) h);
      },
      λ p. ≤ℤ-trans (pos a) (quotient rows k i p.point) b ((quotient_has_room a p.point p.among_points).1 p.room) (is_bound.greatest p.point p.among_points),
    )
