-- The points of the walk above the last one visited: none up to that one, the start alone at level 0, and at a level those of the level below from the
-- multiple and then, above it, those from the time.
use mathlib.Core.Path.{◌≡◌, refl, sym, ap, ◌∙◌, subst}
use Prim.Native.Nat.{ℕ, suc, max, ◌≤◌, ◌<◌}
use mathlib.Core.Bool.{Bool, true, false}
use mathlib.Core.Logic.{◌⊎◌, inl, inr, ⊎_elim}
use mathlib.Core.List.Memᴰ
use mathlib.Core.List.{List, Memᴰ}
use native.Mathlib.Omega.{arith}
use borrow.Author.Tests.{ltb-true, ltb-false}
use lib.Dec.{ltb}
use lib.ListN.{length, get_or}
use Rattle.theory.specs.Row.{Row}
use Rattle.theory.specs.Points.{last_multiple, walk}
use Rattle.theory.specs.Lists.{rows_of}
use Rattle.theory.proofs.Ceil.{multiple_below}
use Rattle.theory.proofs.RowsOf.{row_of_lists}
use Rattle.theory.proofs.Walk.{stop, walk_start, walk_within, walk_from_same, walk_from_stop, walk_cases}
use Rattle.theory.proofs.Ascending.{ascending}
use Rattle.walks.specs.Quotients.{NewPoints}

-- none up to the last one
pub none_new : (cs ts : List ℕ) (level time last p : ℕ) → time ≤ last → NewPoints cs ts level time last p → ⊥
none_new cs ts level time last p h m = omega (arith, walk_within (rows_of cs ts ts) level time p m.0)

-- at level 0 the start
pub start_new : (cs ts : List ℕ) (time last p : ℕ) → last < time → p ≡ time → NewPoints cs ts 0 time last p
start_new cs ts time last p h e = (rw e (walk_start (rows_of cs ts ts) 0 time), omega arith)

-- and nothing else
pub new_is_start : (cs ts : List ℕ) (time last p : ℕ) → NewPoints cs ts 0 time last p → p ≡ time
unfolding walk
new_is_start cs ts time last p m = Memᴰ.eq_of_singleton m.0

-- at the level one above level j, whose multiple is s
module _ (cs ts : List ℕ) (as_many : length ts ≡ length cs) (level j : ℕ) (one-above : level ≡ suc j) (time last s : ℕ) (multiple : s ≡ last_multiple (get_or ts j 0) time) where
  abbrev rows : List Row
  rows = rows_of cs ts ts

  -- the multiple by the list of periods is the walk's
  is_stop : s ≡ stop rows j time
  is_stop = multiple ∙ ap (λ (row : Row). last_multiple row.T time) (sym (row_of_lists cs ts ts as_many as_many j))

  -- the level yields what the level below yields from the time
  pub new_from_time : (reached p : ℕ) → last ≤ reached → NewPoints cs ts j time reached p → NewPoints cs ts level time last p
  new_from_time reached p h m = (rw one-above (walk_from_same rows j time p m.0), omega (arith, m.1))

  -- and what it yields from the multiple, where that is not 0
  pub new_from_multiple : (p : ℕ) → 0 < s → NewPoints cs ts j s last p → NewPoints cs ts level time last p
  new_from_multiple p h m =
      (rw one-above (walk_from_stop rows j time p (omega (arith, is_stop)) (subst (λ (n : ℕ). Memᴰ p (walk rows j n)) is_stop m.0)), m.1)

  -- the two ways of a point of the level
  ways : (p : ℕ) → NewPoints cs ts level time last p → Memᴰ p (walk rows j time) ⊎ ((0 < stop rows j time) × Memᴰ p (walk rows j (stop rows j time)))
  ways p m = walk_cases rows j time p (subst (λ (n : ℕ). Memᴰ p (walk rows n time)) one-above m.0)

  -- where the multiple is 0, nothing else is new
  pub new_of_time : (p : ℕ) → s ≡ 0 → NewPoints cs ts level time last p → NewPoints cs ts j time last p
  new_of_time p e m = ⊎_elim (λ q. (q, m.1)) (λ q. absurd (omega (arith, is_stop, q.0))) (ways p m)

  -- what is new from the time and not from the multiple is above both the last one and the multiple
  pub new_of_both : (reached p : ℕ) → reached ≡ max last s
      → NewPoints cs ts level time last p
      → NewPoints cs ts j s last p ⊎ NewPoints cs ts j time reached p
  new_of_both reached p further m =
      ⊎_elim (λ q. go q (ltb reached p) refl) (λ q. inl (subst (λ (n : ℕ). Memᴰ p (walk rows j n)) (sym is_stop) q.1, m.1)) (ways p m)
    where
      go : Memᴰ p (walk rows j time) → (b : Bool) → ltb reached p ≡ b → NewPoints cs ts j s last p ⊎ NewPoints cs ts j time reached p
      go q true e = inr (q, ltb-true reached p e)
      go q false e =
          inl (ascending rows j (omega (arith, multiple, multiple_below (get_or ts j 0) time)) (omega (arith, m.1, ltb-false reached p e)) q, m.1)
