-- Points come up for the first time in ascending order, once over the level: what the walk from a time yields up to an earlier time, the walk from that earlier time yields.
use mathlib.Core.Path.{◌≡◌, refl, sym, ◌∙◌}
use Prim.Native.Nat.{ℕ, zero, suc, ◌/◌, ◌≤◌, ◌<◌}
use mathlib.Core.Bool.{Bool, true, false}
use mathlib.Core.Logic.{inl, ⊎_elim}
use mathlib.Core.List.Memᴰ
use mathlib.Core.List.{List, ◌++◌, Memᴰ}
use native.Mathlib.Omega.{arith}
use native.Mathlib.Nat.{mul-zero, le_trans, le_antisymm}
use borrow.Author.Tests.{leb-true, leb-false}
use lib.Dec.{leb}
use Rattle.theory.specs.Row.{Row, row_at}
use Rattle.theory.specs.Gather.{First}
use Rattle.theory.specs.Points.{last_multiple, walk}
use Rattle.theory.proofs.Ceil.{multiple_below, multiple_largest}
use Rattle.theory.proofs.Member.{all_from}
use Rattle.theory.proofs.First.{first_in_front, first_behind, first_narrows}
use Rattle.theory.proofs.Walk.{stop, walk_from_same, walk_from_stop, walk_cases, walk_by_ways, walk_within}

-- a time not below another's largest multiple, and not behind that other, has the same
pub same_multiple : (m : ℕ) {s t : ℕ} → last_multiple m t ≤ s → s ≤ t → last_multiple m s ≡ last_multiple m t
unfolding last_multiple
same_multiple zero {s} {t} h e = mul-zero (s / 0) ∙ sym (mul-zero (t / 0))
same_multiple (suc m) {s} {t} h e =
    le_antisymm
    (multiple_largest (omega arith) t (s / suc m) (le_trans (multiple_below (suc m) s) e))
    (multiple_largest (omega arith) s (t / suc m) h)

module _ (hs : List Row) where
  -- a point of the walk from t that is not behind s ≤ t is a point of the walk from s
  pub ascending : (j : ℕ) {s t p : ℕ} → s ≤ t → p ≤ s → Memᴰ p (walk hs j t) → Memᴰ p (walk hs j s)
  unfolding walk
  ascending zero {s} {t} {p} h e m = let same : p ≡ s = omega (arith, Memᴰ.eq_of_singleton m) in Memᴰ.head same
  ascending (suc j) {s} {t} {p} h e m =
      ⊎_elim (λ q. walk_from_same hs j s p (ascending j h e q))
      (λ q. go (λ l. ascending j l e q.1) q.0 q.1 (leb (stop hs j t) s) refl) (walk_cases hs j t p m)
    where
      go : (s ≤ stop hs j t → Memᴰ p (walk hs j s))
          → 0 < stop hs j t
          → Memᴰ p (walk hs j (stop hs j t))
          → (b : Bool)
          → leb (stop hs j t) s ≡ b
          → Memᴰ p (walk hs (suc j) s)
      go earlier some q true f =
          let same : stop hs j s ≡ stop hs j t = same_multiple (row_at hs j).T (leb-true (stop hs j t) s f) h in
          walk_from_stop hs j s p (omega arith) (rw same q)
      go earlier some q false f = walk_from_same hs j s p (earlier (omega (arith, leb-false (stop hs j t) s f)))

  -- a point of the walk is the first in it that is not before it
  pub first_not_before : (j t p : ℕ) → Memᴰ p (walk hs j t) → First (λ q. p ≤ q) (walk hs j t) p
  unfolding walk
  first_not_before zero t p m = let same : p ≡ t = Memᴰ.eq_of_singleton m in inl (sym same, omega arith)
  first_not_before (suc j) t p m =
      walk_by_ways hs (λ points. Memᴰ p points → First (λ q. p ≤ q) points p) j t (first_not_before j t p)
      (λ m. go (first_not_before j (stop hs j t) p) (first_not_before j t p) m (leb p (stop hs j t)) refl) m
    where
      go : (Memᴰ p (walk hs j (stop hs j t)) → First (λ q. p ≤ q) (walk hs j (stop hs j t)) p)
          → (Memᴰ p (walk hs j t) → First (λ q. p ≤ q) (walk hs j t) p)
          → Memᴰ p (walk hs j (stop hs j t) ++ walk hs j t)
          → (b : Bool)
          → leb p (stop hs j t) ≡ b
          → First (λ q. p ≤ q) (walk hs j (stop hs j t) ++ walk hs j t) p
      go from-stop from-same m true e =
          let up_to : p ≤ stop hs j t = leb-true p (stop hs j t) e in
          first_in_front (λ q. p ≤ q) (walk hs j (stop hs j t)) (walk hs j t) p
          (from-stop
          (⊎_elim (λ q. q) (λ q. ascending j (multiple_below (row_at hs j).T t) up_to q) (Memᴰ.append_cases (walk hs j (stop hs j t)) m)))
      go from-stop from-same m false e =
          let beyond : stop hs j t < p = leb-false p (stop hs j t) e in
          first_behind (λ q. p ≤ q) (walk hs j (stop hs j t)) (walk hs j t) p
          (all_from (walk hs j (stop hs j t)) (λ x q h. omega (arith, walk_within hs j (stop hs j t) x q)))
          (from-same
          (⊎_elim (λ q. absurd (omega (arith, walk_within hs j (stop hs j t) p q))) (λ q. q) (Memᴰ.append_cases (walk hs j (stop hs j t)) m)))

  -- so the least point of which something holds is the first of which it does
  pub least_is_first : (P : ℕ → Type 0) (j t p : ℕ) → Memᴰ p (walk hs j t) → P p → ((q : ℕ) → Memᴰ q (walk hs j t) → P q → p ≤ q) → First P (walk hs j t) p
  least_is_first P j t p m holds least = first_narrows (λ q. p ≤ q) P (walk hs j t) p least holds (first_not_before j t p m)
