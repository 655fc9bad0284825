-- The best quotients after a row's walk are its bounds. Each began below every quotient, so it is one of them.
use mathlib.Core.Path.{◌≡◌, sym, ◌∙◌, subst}
use Prim.Native.Nat.{ℕ, ◌≤◌, ◌<◌}
use mathlib.Core.List.{List, Memᴰ}
use native.Mathlib.Omega.{arith}
use native.Mathlib.Nat.{le_refl, le_of_lt}
use lib.IntN.{ℤ, pos}
use lib.ListN.{length, get_or, replicate, length-map, get_or-replicate}
use lib.Signed.{◌≤ℤ◌}
use Rattle.theory.specs.Row.{Row, WithinLimits, AllWithin}
use Rattle.theory.specs.Moved.{LiftedTo}
use Rattle.theory.specs.Points.{walk, quotient, IsBound}
use Rattle.theory.specs.Lists.{Shaped, rows_of}
use Rattle.theory.proofs.Signed.{≤ℤ-antisymm}
use Rattle.theory.proofs.Attained.{Attained, moved_attains}
use Rattle.theory.proofs.Walk.{walk_start, walk_positive}
use Rattle.demands.specs.Levels.{Small}
use Rattle.climbs.specs.Ranking.{ranking_by, rivals_in}
use Rattle.climbs.proofs.Load.{rival_entries, limits_at}
use Rattle.walks.specs.Quotients.{quotient_of, least, NewPoints}
use Rattle.points.specs.Bounds.{BestOfWalk}
use Rattle.points.proofs.SmallLoad.{least_below}
use Rattle.points.proofs.Walked.{points_of_rivals, quotient_of_rival, quotient_of_row}

-- row k's bounds: at the front of a list on each of its rivals, and after those on itself
pub record HoldsBounds (rows : List Row) (k : ℕ) (hs : List ℕ) (best : List ℤ) : Type 0 where
  pub on_rivals : (j : ℕ) → j < length hs → IsBound rows k (get_or hs j 0) (get_or best j (pos 0))
  pub on_itself : IsBound rows k k (get_or best (length hs) (pos 0))

module _ (cs ds ts : List ℕ) (shaped : Shaped cs ds ts) (within : AllWithin (rows_of cs ds ts)) (k : ℕ) (inside : k < length cs) where
  abbrev rows : List Row
  rows = rows_of cs ds ts

  abbrev hs : List ℕ
  hs = rivals_in (ranking_by ds) ds k

  abbrev executions : List ℕ
  executions = rival_entries cs ds k

  abbrev periods : List ℕ
  periods = rival_entries ts ds k

  -- the points that the walk visits
  abbrev Visited : ℕ → Type 0
  Visited = NewPoints executions periods (length executions) (get_or ds k 0) 0

  limits : WithinLimits (record { C = get_or cs k 0; D = get_or ds k 0; T = get_or ts k 0 })
  limits = limits_at cs ds ts shaped within k inside

  module _ (small : Small executions periods) (best : List ℤ) (walked : BestOfWalk (get_or ds k 0) (get_or cs k 0) executions periods best) where
    -- an entry whose quotients are those for row i
    bound_at : (i j : ℕ) → j ≤ length hs → ((p : ℕ) → quotient_of (get_or cs k 0) executions periods j p ≡ quotient rows k i p)
        → IsBound rows k i (get_or best j (pos 0))
    bound_at i j h same = record {
      point = attained.at;
      among_points = subst (Memᴰ attained.at) (points_of_rivals cs ds ts shaped k) attained.visited.0;
      its_quotient = sym (same attained.at) ∙ attained.gives;
      greatest = λ p m.
          subst (λ (z : ℤ). z ≤ℤ get_or best j (pos 0)) (same p)
          (lifted.past_visited p (visited p (subst (Memᴰ p) (sym (points_of_rivals cs ds ts shaped k)) m)));
    }
      where
        has_entry : j ≤ length executions
        has_entry = omega (arith, length-map hs (λ x. get_or cs x 0))

        lifted : LiftedTo (quotient_of (get_or cs k 0) executions periods j) Visited (get_or (replicate 25 least) j (pos 0)) (get_or best j (pos 0))
        lifted = walked j has_entry

        visited : (p : ℕ) → Memᴰ p (walk (rows_of executions periods periods) (length executions) (get_or ds k 0)) → Visited p
        visited p m = (m, walk_positive (rows_of executions periods periods) (length executions) (get_or ds k 0) p (omega (arith, limits)) m)

        attained : Attained (quotient_of (get_or cs k 0) executions periods j) Visited (get_or best j (pos 0))
        attained =
            moved_attains (λ a b. a ≤ℤ b) ≤ℤ-antisymm _ _ _ _ lifted (get_or ds k 0)
            (visited (get_or ds k 0) (walk_start (rows_of executions periods periods) (length executions) (get_or ds k 0)))
            (rw (get_or-replicate 25 j least (pos 0) (omega (arith, has_entry, small.few))) (least_below _ _ _ (omega (arith, limits)) small j _ (omega (arith, limits))))

    -- they are row k's bounds
    pub bounds_held : HoldsBounds rows k hs best
    bounds_held = record {
      on_rivals = λ j h. bound_at (get_or hs j 0) j (le_of_lt h) (λ p. quotient_of_rival cs ds ts shaped k j p h);
      on_itself = bound_at k (length hs) (le_refl (length hs)) (λ p. quotient_of_row cs ds ts shaped k (length hs) p (le_refl (length hs)));
    }
