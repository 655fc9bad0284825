-- Lists of numbers by index: where a member stands, and the order between two places.
use mathlib.Core.Path.{◌≡◌, sym}
use Prim.Native.Nat.{ℕ, zero, suc, ◌<◌}
use mathlib.Core.Logic.{◌⊎◌, inl, inr}
use mathlib.Core.List.{List, [], ◌∷◌, Memᴰ}
use native.Mathlib.Omega.{arith}
use lib.ListN.{length, get_or}
use Rattle.theory.specs.Gather.{All}
use Rattle.theory.proofs.Tests.{order_cases}
use Rattle.theory.proofs.Member.{all_at, mem_get_or}
use Rattle.theory.proofs.Order.{Ordered}

-- a place of a list at which a number stands
pub record StandsIn (xs : List ℕ) (x : ℕ) : Type 0 where
  pub place : ℕ
  pub inside : place < length xs
  pub there : get_or xs place 0 ≡ x

-- a member stands somewhere
pub stands_in : {x : ℕ} {xs : List ℕ} → Memᴰ x xs → StandsIn xs x
stands_in (Memᴰ.head e) = record { place = 0; inside = omega arith; there = sym e }
stands_in (Memᴰ.tail m) = let s = stands_in m in record { place = suc s.place; inside = omega (arith, s.inside); there = s.there }

-- what holds of each holds at each place
pub each_at : (P : ℕ → Type 0) (xs : List ℕ) → All P xs → (j : ℕ) → j < length xs → P (get_or xs j 0)
each_at P xs all j h = all_at P (mem_get_or xs j h) all

-- of a list in order, what stands earlier is related to what stands later
pub ordered_at : (R : ℕ → ℕ → Type 0) (xs : List ℕ) → Ordered R xs → (p q : ℕ) → p < q → q < length xs → R (get_or xs p 0) (get_or xs q 0)
ordered_at R [] o p q h l = absurd (omega arith)
ordered_at R (x ∷ xs) o p zero h l = absurd (omega arith)
ordered_at R (x ∷ xs) o zero (suc q) h l = each_at (R x) xs o.0 q (omega arith)
ordered_at R (x ∷ xs) o (suc p) (suc q) h l = ordered_at R xs o.1 p q (omega arith) (omega arith)

-- of an ascending list, what stands at two places stands at one
pub ascending_once : (xs : List ℕ) → Ordered ◌<◌ xs → (p q : ℕ) → p < length xs → q < length xs → get_or xs p 0 ≡ get_or xs q 0 → p ≡ q
ascending_once xs o p q g h e = go (order_cases p q)
  where
    go : (p < q) ⊎ (p ≡ q) ⊎ (q < p) → p ≡ q
    go (inl l) = absurd (omega (arith, ordered_at ◌<◌ xs o p q l h))
    go (inr (inl s)) = s
    go (inr (inr l)) = absurd (omega (arith, ordered_at ◌<◌ xs o q p l g))
