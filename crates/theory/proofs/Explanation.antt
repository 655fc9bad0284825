-- Document 02, request 1: exactly one row and one point answer the question, and they are the true reason. With the allowance more all rows meet, and the named row responds by
-- the named point; with one more than that the named row misses and every row above it still meets; and its bound, and its quotient at the point, are the allowance itself.
use mathlib.Core.Path.{◌≡◌, refl, sym, subst}
use Prim.Native.Nat.{ℕ, suc, ◌+◌, ◌*◌, ◌≤◌, ◌<◌}
use mathlib.Core.Bool.{Bool, true, false}
use mathlib.Core.Logic.{◌↔◌}
use mathlib.Core.List.{List, Memᴰ}
use native.Mathlib.Omega.{arith}
use lib.Dec.{T}
use lib.IntN.{ℤ, pos}
use lib.ListN.{length}
use lib.Signed.{◌≤ℤ◌, ≤ℤ_refl}
use Rattle.theory.specs.Gather.{First}
use Rattle.theory.specs.Row.{Row, row_at}
use Rattle.theory.specs.Rank.{above, levels}
use Rattle.theory.specs.Response.{load, Meets, AllMeet, FirstMiss}
use Rattle.theory.specs.Allowance.{raised}
use Rattle.theory.specs.Points.{points, times, quotient, touches, bound, IsBound}
use Rattle.theory.specs.Explanation.{LimitedBy, TrueReason}
use Rattle.theory.proofs.Each.{T_true, T_false}
use Rattle.theory.proofs.First.{first_holds, first_among, first_unique}
use Rattle.theory.proofs.Walk.{walk_positive}
use Rattle.theory.proofs.Ascending.{least_is_first}
use Rattle.theory.proofs.Signed.{≤ℤ-antisymm, pos_exactly}
use Rattle.theory.proofs.Verdict.{AllSteady, RivalsMeet, point_meets, verdict_by_points}
use Rattle.theory.proofs.Raise.{raised_in_set, above_stays, load_of_touched}
use Rattle.theory.proofs.Bound.{PointFor, quotient_has_room, bound_is, bound_unique, bound_covers}
use Rattle.theory.proofs.Allowance.{allowance_unique, raised_steady, point_of_raised, point_for}
use Rattle.theory.proofs.Trial.{response_below_room, miss_bounds, untouched_meets, trial_allowance}
use Rattle.theory.proofs.Lists.{first_miss_unique}

-- one row and one point limit a row
pub limited_unique : (rows : List Row) (i k h p q : ℕ) → LimitedBy rows i k p → LimitedBy rows i h q → (k ≡ h) × (p ≡ q)
limited_unique rows i k h p q l m = (same_row, same_point)
  where
    same_row : k ≡ h
    same_row = first_miss_unique _ k h (rw (allowance_unique rows i l.allowance m.allowance l.is_allowance m.is_allowance) at l.first_to_miss) m.first_to_miss

    same_point : p ≡ q
    same_point =
        first_unique (λ x. IsBound rows h i (quotient rows h i x)) (points rows h) p q
        (subst (λ (r : ℕ). First (λ x. IsBound rows r i (quotient rows r i x)) (points rows r) p) same_row l.first_greatest) m.first_greatest

module _ (rows : List Row) (steady : AllSteady rows) (i : ℕ) (inside : i < length rows) (all : AllMeet rows) where
  -- a row with a point that has room for a more meets with it
  point_for_meets : (a k : ℕ) → k < length rows → T (touches rows i k) → PointFor rows k i a → Meets (raised rows i a) k
  point_for_meets a k in_set t q =
      point_meets (raised rows i a) (raised_steady rows steady i inside a) k ((raised_in_set rows i a).1 in_set) (point_of_raised rows steady i inside a k t q)

  -- and one that meets with it, as its rivals do, has such a point
  meets_point_for : (a k : ℕ) → k < length rows → T (touches rows i k) → RivalsMeet (raised rows i a) k → Meets (raised rows i a) k → PointFor rows k i a
  meets_point_for a k in_set t rivals m =
      point_for rows steady i inside a k t ((verdict_by_points (raised rows i a) (raised_steady rows steady i inside a) k ((raised_in_set rows i a).1 in_set) rivals).0 m)

  -- room for a more and for no more makes a the bound
  bound_exactly : (a k : ℕ) → k < length rows → PointFor rows k i a → (PointFor rows k i (suc a) → ⊥) → IsBound rows k i (pos a)
  bound_exactly a k in_set has_room no_more =
      subst (IsBound rows k i)
      (pos_exactly a (bound rows k i) ((bound_covers rows steady k i in_set inside a (bound rows k i) (bound_is rows k i)).1 has_room) (λ h. no_more ((bound_covers rows steady k i in_set inside (suc a) (bound rows k i) (bound_is rows k i)).0 h)))
      (bound_is rows k i)

  -- THE REASON NAMED IS THE TRUE ONE
  pub limited_truly : (k p : ℕ) (l : LimitedBy rows i k p) → TrueReason rows i k p l.allowance
  unfolding points
  limited_truly k p l = record {
    all_meet_with_it = l.is_allowance.all_meet;
    misses_with_one_more = l.first_to_miss.misses;
    above_meet_with_one_more = λ h in_set t.
        l.first_to_miss.above_meet h ((raised_in_set rows i (suc a)).1 in_set) (subst (λ (relation : ℕ → ℕ → Bool). T (relation h k)) (sym (above_stays rows i (suc a) inside)) t);
    touched = touched;
    its_bound = is_bound;
    its_quotient = is_quotient;
    done_by_point = λ R is-R.
        response_below_room (raised rows i a) k R p (raised_steady rows steady i inside a k ((raised_in_set rows i a).1 in_set)).runs is-R
        (record {
          from_one = walk_positive (levels rows k) (length (levels rows k)) (row_at rows k).D p (steady k in_set).some_deadline among;
          enough = omega (arith, load_of_touched rows i a inside k p touched, (quotient_has_room rows steady k i in_set inside a p among).0 (subst (λ (z : ℤ). pos a ≤ℤ z) (sym is_quotient) (≤ℤ_refl (pos a))));
        });
  }
    where
      a : ℕ
      a = l.allowance

      in_set : k < length rows
      in_set = (raised_in_set rows i _).0 l.first_to_miss.in_set

      touched : T (touches rows i k)
      touched = go (touches rows i k) refl
        where
          go : (b : Bool) → touches rows i k ≡ b → T (touches rows i k)
          go true e = T_true (touches rows i k) e
          go false e = absurd (l.first_to_miss.misses (untouched_meets rows i inside _ k steady in_set (all k in_set) (T_false (touches rows i k) e)))

      has_room : PointFor rows k i a
      has_room = meets_point_for a k in_set touched (λ h there t. l.is_allowance.all_meet h there) (l.is_allowance.all_meet k ((raised_in_set rows i a).1 in_set))

      no_more : PointFor rows k i (suc a) → ⊥
      no_more q = l.first_to_miss.misses (point_for_meets (suc a) k in_set touched q)

      is_bound : IsBound rows k i (pos a)
      is_bound = bound_exactly a k in_set has_room no_more

      among : Memᴰ p (points rows k)
      among = first_among (λ q. IsBound rows k i (quotient rows k i q)) (points rows k) p l.first_greatest

      is_quotient : quotient rows k i p ≡ pos a
      is_quotient = bound_unique rows k i (quotient rows k i p) (pos a) (first_holds (λ q. IsBound rows k i (quotient rows k i q)) (points rows k) p l.first_greatest) is_bound

  -- a search by points finds the limiting row: each row that the raise touches has a point with room for a more, those above row k even for one more, row k itself
  -- for no more; and the point: the least of row k's with room for a more
  pub record FoundByPoints (k p a : ℕ) : Type 0 where
    pub in_set : k < length rows
    pub touched : T (touches rows i k)
    pub each_has_room : (h : ℕ) → h < length rows → T (touches rows i h) → PointFor rows h i a
    pub above_have_more : (h : ℕ) → h < length rows → T (touches rows i h) → T (above rows h k) → PointFor rows h i (suc a)
    pub no_more : PointFor rows k i (suc a) → ⊥
    pub among_points : Memᴰ p (points rows k)
    pub has_room : load rows k p + a * times rows k i p ≤ p
    pub least : (q : ℕ) → Memᴰ q (points rows k) → load rows k q + a * times rows k i q ≤ q → p ≤ q

  pub found_limited : (k p a : ℕ) → FoundByPoints k p a → LimitedBy rows i k p
  unfolding points
  found_limited k p a found = record {
    allowance = a;
    is_allowance = trial_allowance rows i inside a steady all (λ h there t. point_for_meets a h there t (found.each_has_room h there t)) (miss_bounds rows i inside a k steady found.in_set misses);
    first_to_miss = first;
    first_greatest = first_point;
  }
    where
      -- row k misses with one more, and the rows above it meet
      above_meet : (h : ℕ) → h < length (raised rows i (suc a)) → T (above (raised rows i (suc a)) h k) → Meets (raised rows i (suc a)) h
      above_meet h there t = go (touches rows i h) refl
        where
          in_set : h < length rows
          in_set = (raised_in_set rows i (suc a)).0 there

          ranks : T (above rows h k)
          ranks = subst (λ (relation : ℕ → ℕ → Bool). T (relation h k)) (above_stays rows i (suc a) inside) t

          go : (b : Bool) → touches rows i h ≡ b → Meets (raised rows i (suc a)) h
          go true e =
              let touched : T (touches rows i h) = T_true (touches rows i h) e in
              point_for_meets (suc a) h in_set touched (found.above_have_more h in_set touched ranks)
          go false e = untouched_meets rows i inside (suc a) h steady in_set (all h in_set) (T_false (touches rows i h) e)

      misses : Meets (raised rows i (suc a)) k → ⊥
      misses m = found.no_more (meets_point_for (suc a) k found.in_set found.touched above_meet m)

      first : FirstMiss (raised rows i (suc a)) k
      first = record { in_set = (raised_in_set rows i (suc a)).1 found.in_set; misses = misses; above_meet = above_meet }

      is_bound : IsBound rows k i (pos a)
      is_bound = bound_exactly a k found.in_set (record { point = p; among_points = found.among_points; room = found.has_room }) found.no_more

      first_point : First (λ q. IsBound rows k i (quotient rows k i q)) (points rows k) p
      first_point =
          least_is_first (levels rows k) (λ q. IsBound rows k i (quotient rows k i q)) (length (levels rows k)) (row_at rows k).D p found.among_points
          (subst (IsBound rows k i) (≤ℤ-antisymm (pos a) (quotient rows k i p) ((covers p found.among_points).1 found.has_room) (is_bound.greatest p found.among_points)) is_bound)
          (λ q m b. found.least q m ((covers q m).0 (subst (λ (z : ℤ). pos a ≤ℤ z) (bound_unique rows k i (pos a) (quotient rows k i q) is_bound b) (≤ℤ_refl (pos a)))))
        where
          covers : (q : ℕ) → Memᴰ q (points rows k) → (pos a ≤ℤ quotient rows k i q) ↔ (load rows k q + a * times rows k i q ≤ q)
          covers = quotient_has_room rows steady k i found.in_set inside a
