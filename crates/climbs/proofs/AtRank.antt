-- C and T of a set's rows by rank: what stands before a row are its rivals' numbers, so its load is the load over them.
use mathlib.Core.Path.{◌≡◌, refl, sym, ◌∙◌, ap}
use Prim.Native.Nat.{ℕ, zero, suc, ◌≤◌, ◌<◌}
use mathlib.Core.Bool.{Bool, true, false}
use mathlib.Core.List.{List, [], ◌∷◌, map}
use native.Mathlib.Omega.{arith}
use lib.Dec.{T}
use lib.ListN.{length, get_or, take}
use Rattle.theory.specs.Gather.{keep}
use Rattle.theory.specs.Response.{load}
use Rattle.theory.specs.Lists.{Shaped, rows_of}
use Rattle.theory.proofs.Each.{true_of}
use Rattle.theory.proofs.Kept.{keep_passes_first, keep_fails_first}
use Rattle.demands.specs.Levels.{load_of}
use Rattle.climbs.specs.Ranking.{above_by, ranking_by, rivals_in, InRankOrder}
use Rattle.climbs.proofs.ByRank.{length_ranking}
use Rattle.climbs.proofs.InLists.{ranked, ranked_above, ranked_before}
use Rattle.climbs.proofs.Load.{rival_entries, entry_at, load_of_rivals}

-- a test that is not passed is false
false_of : (b : Bool) → (T b → ⊥) → b ≡ false
false_of true n = absurd (n tt)
false_of false n = refl

-- where the first j of a list pass and the others fail, the first j are kept
keep_first : (test : ℕ → Bool) (xs : List ℕ) (j : ℕ)
    → ((p : ℕ) → p < j → p < length xs → test (get_or xs p 0) ≡ true)
    → ((p : ℕ) → j ≤ p → p < length xs → test (get_or xs p 0) ≡ false)
    → keep test xs ≡ take j xs
unfolding keep
keep_first test [] zero passes fails = refl
keep_first test [] (suc j) passes fails = refl
keep_first test (x ∷ xs) zero passes fails =
    keep_fails_first test x xs (fails 0 (omega arith) (omega arith)) ∙ keep_first test xs zero (λ p h l. absurd (omega arith)) (λ p h l. fails (suc p) (omega arith) (omega arith))
keep_first test (x ∷ xs) (suc j) passes fails =
    keep_passes_first test x xs (passes 0 (omega arith) (omega arith))
    ∙ ap (λ (ys : List ℕ). x ∷ ys) (keep_first test xs j (λ p h l. passes (suc p) (omega arith) (omega arith)) (λ p h l. fails (suc p) (omega arith) (omega arith)))

-- the first entries of what a function gives
take_of_map : (f : ℕ → ℕ) (j : ℕ) (xs : List ℕ) → take j (map f xs) ≡ map f (take j xs)
take_of_map f zero xs = refl
take_of_map f (suc j) [] = refl
take_of_map f (suc j) (x ∷ xs) = ap (λ (ys : List ℕ). f x ∷ ys) (take_of_map f j xs)

module _ (cs ds ts : List ℕ) (shaped : Shaped cs ds ts) (j : ℕ) (inside : j < length cs) where
  abbrev k : ℕ
  k = ranked cs ds ts shaped j

  in_ranking : {p : ℕ} → p < length (ranking_by ds) → p < length cs
  in_ranking h = omega (arith, length_ranking ds, shaped.as_many_deadlines)

  -- the rivals of the row at a place by rank are the rows at the places before it
  pub rivals_at_rank : rivals_in (ranking_by ds) ds k ≡ take j (ranking_by ds)
  unfolding rivals_in
  rivals_at_rank = keep_first (λ h. above_by ds h k) (ranking_by ds) j (λ p h l. true_of _ (ranked_above cs ds ts shaped p j h inside)) (λ p h l. not_above p h (in_ranking l))
    where
      not_above : (p : ℕ) → j ≤ p → p < length cs → above_by ds (ranked cs ds ts shaped p) k ≡ false
      not_above p h l = false_of _ (λ above. omega (arith, ranked_before cs ds ts shaped p j l above))

  -- so what stands before it in rank order are its rivals' entries
  pub before_are_rivals : (xs list : List ℕ) → InRankOrder ds xs list → take j list ≡ rival_entries xs ds k
  before_are_rivals xs list in_order =
      ap (take j) in_order
      ∙ take_of_map (λ h. get_or xs h 0) j (ranking_by ds)
      ∙ ap (map (λ h. get_or xs h 0)) (sym rivals_at_rank)

  -- and at its place stands its own
  pub entry_at_rank : (xs list : List ℕ) → InRankOrder ds xs list → get_or list j 0 ≡ get_or xs k 0
  entry_at_rank xs list in_order =
      ap (λ (ys : List ℕ). get_or ys j 0) in_order
      ∙ entry_at xs (ranking_by ds) j (omega (arith, length_ranking ds, shaped.as_many_deadlines))

  module _ (executions periods : List ℕ) (by_C : InRankOrder ds cs executions) (by_T : InRankOrder ds ts periods) where
    -- its load is the load over what stands before it
    pub load_at_rank : load_of (get_or executions j 0) (take j executions) (take j periods) ≡ load (rows_of cs ds ts) k
    load_at_rank = rw (entry_at_rank cs executions by_C, before_are_rivals cs executions by_C, before_are_rivals ts periods by_T) (load_of_rivals cs ds ts shaped k)
