-- The next point of a walk, level by level: what is looked for in the walk from the limit is found in the walk of the level below, from the multiple where that is above
-- the last point, and else from the same time.
use mathlib.Core.Path.{◌≡◌, refl, sym, ap, ◌∙◌, subst}
use Prim.Native.Nat.{ℕ, suc, ◌≤◌, ◌<◌}
use mathlib.Core.Bool.{Bool, true, false}
use mathlib.Core.Logic.{⊎_elim}
use mathlib.Core.List.Memᴰ
use mathlib.Core.List.{List, [], ◌∷◌, ◌++◌, Memᴰ}
use Rattle.std.proofs.Common.{append_assoc, add-one}
use Rattle.std.proofs.lemmas.List.{length_push}
use Rattle.std.proofs.Math.Seq.{get_or-append_seam}
use native.Mathlib.Omega.{arith}
use borrow.Author.Tests.{leb-true, leb-false}
use lib.Dec.{leb}
use lib.ListN.{length, get_or}
use Rattle.theory.specs.Row.{Row}
use Rattle.theory.specs.Points.{last_multiple, walk}
use Rattle.theory.specs.Lists.{rows_of}
use Rattle.theory.proofs.Ceil.{multiple_below}
use Rattle.theory.proofs.RowsOf.{row_of_lists}
use Rattle.theory.proofs.Walk.{stop, walk_start, walk_within, walk_from_same, walk_from_stop, walk_cases}
use Rattle.theory.proofs.Ascending.{ascending}
use Rattle.reasons.specs.Reason.{walk_from, IsNextPoint}

module _ (ts : List ℕ) (limit last : ℕ) where
  abbrev rows : List Row
  rows = rows_of ts ts ts

  -- a point of the walk at a level from a time, above the last one and not behind q
  pub record PointUpTo (level time q : ℕ) : Type 0 where
    pub point : ℕ
    pub yielded : Memᴰ point (walk rows level time)
    pub above_last : last < point
    pub not_behind : point ≤ q

  -- the walk at a level from a time has points of the whole walk, and one above the last for each of its
  pub record Descended (level time : ℕ) : Type 0 where
    pub levels : level ≤ length ts
    pub above_last : last < time
    pub by_limit : time ≤ limit
    pub of_walk : (q : ℕ) → Memᴰ q (walk rows level time) → Memᴰ q (walk_from ts limit)
    pub no_later : (q : ℕ) → Memᴰ q (walk_from ts limit) → last < q → PointUpTo level time q

  module _ {j time : ℕ} (so_far : Descended (suc j) time) (s : ℕ) (multiple : s ≡ last_multiple (get_or ts j 0) time) where
    is_stop : s ≡ stop rows j time
    is_stop = multiple ∙ ap (λ (row : Row). last_multiple row.T time) (sym (row_of_lists ts ts ts refl refl j))

    by_time : s ≤ time
    by_time = omega (arith, multiple, multiple_below (get_or ts j 0) time)

    -- the multiple is above the last one
    pub descent_to_multiple : last < s → Descended j s
    descent_to_multiple above = record {
      levels = omega (arith, so_far.levels);
      above_last = above;
      by_limit = omega (arith, by_time, so_far.by_limit);
      of_walk = λ q m. so_far.of_walk q (walk_from_stop rows j time q (omega (arith, is_stop)) (subst (λ (n : ℕ). Memᴰ q (walk rows j n)) is_stop m));
      no_later = λ q m a. closer q (so_far.no_later q m a);
    }
      where
        closer : (q : ℕ) → PointUpTo (suc j) time q → PointUpTo j s q
        closer q p = ⊎_elim (λ m. go m (leb p.point s) refl) (λ m. at_multiple (subst (λ (n : ℕ). Memᴰ p.point (walk rows j n)) (sym is_stop) m.1)) (walk_cases rows j time p.point p.yielded)
          where
            at_multiple : Memᴰ p.point (walk rows j s) → PointUpTo j s q
            at_multiple m = record { point = p.point; yielded = m; above_last = p.above_last; not_behind = p.not_behind }

            go : Memᴰ p.point (walk rows j time) → (b : Bool) → leb p.point s ≡ b → PointUpTo j s q
            go m true e = at_multiple (ascending rows j by_time (leb-true p.point s e) m)
            go m false e = record { point = s; yielded = walk_start rows j s; above_last = above; not_behind = omega (arith, leb-false p.point s e, p.not_behind) }

    -- it is not
    pub descent_at_time : s ≤ last → Descended j time
    descent_at_time below = record {
      levels = omega (arith, so_far.levels);
      above_last = so_far.above_last;
      by_limit = so_far.by_limit;
      of_walk = λ q m. so_far.of_walk q (walk_from_same rows j time q m);
      no_later = λ q m a. closer q (so_far.no_later q m a);
    }
      where
        closer : (q : ℕ) → PointUpTo (suc j) time q → PointUpTo j time q
        closer q p =
            ⊎_elim (λ m. record { point = p.point; yielded = m; above_last = p.above_last; not_behind = p.not_behind })
            (λ m. absurd (omega (arith, walk_within rows j (stop rows j time) p.point m.1, is_stop, p.above_last))) (walk_cases rows j time p.point p.yielded)

  -- at level 0 the time is the next point
  pub descent_ends : {time : ℕ} → Descended 0 time → IsNextPoint ts limit last time
  unfolding walk
  descent_ends {time} done = record {
    among_points = done.of_walk time (walk_start rows 0 time);
    above_last = done.above_last;
    least = λ q m above. let p = done.no_later q m above in omega (arith, p.not_behind, Memᴰ.eq_of_singleton p.yielded);
  }

  -- of the periods those of the levels that are left, and those of the levels passed; the walk of what is left goes on from a time
  pub record Descending (left : List ℕ) (time : ℕ) : Type 0 where
    pub passed : List ℕ
    pub together : ts ≡ left ++ passed
    pub so_far : Descended (length left) time

  -- the last of those left is passed
  module _ (left before : List ℕ) (m time s : ℕ) (at_hand : Descending left time) (left_is : left ≡ before ++ m ∷ []) (multiple : s ≡ last_multiple m time) where
    together : ts ≡ before ++ (m ∷ at_hand.passed)
    together = at_hand.together ∙ ap (λ (xs : List ℕ). xs ++ at_hand.passed) left_is ∙ append_assoc before (m ∷ []) at_hand.passed

    at_level : Descended (suc (length before)) time
    at_level = subst (λ (level : ℕ). Descended level time) (ap length left_is ∙ length_push before m ∙ add-one (length before)) at_hand.so_far

    multiple_here : s ≡ last_multiple (get_or ts (length before) 0) time
    multiple_here = multiple ∙ ap (λ (T : ℕ). last_multiple T time) (sym (ap (λ (xs : List ℕ). get_or xs (length before) 0) together ∙ get_or-append_seam before m at_hand.passed 0))

    pub descending_to_multiple : last < s → Descending before s
    descending_to_multiple above = record { passed = m ∷ at_hand.passed; together = together; so_far = descent_to_multiple at_level s multiple_here above }

    pub descending_at_time : s ≤ last → Descending before time
    descending_at_time below = record { passed = m ∷ at_hand.passed; together = together; so_far = descent_at_time at_level s multiple_here below }

  -- none is left
  pub descending_ends : {left : List ℕ} {time : ℕ} → length left ≡ 0 → Descending left time → IsNextPoint ts limit last time
  descending_ends {left} {time} none done = descent_ends (subst (λ (level : ℕ). Descended level time) none done.so_far)
