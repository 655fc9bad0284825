-- Numbers of the rows written to their places in an array one after another, by rank: what holds of the first j of them, how it goes on, and what it comes to.
use mathlib.Core.Path.{◌≡◌, sym, ◌∙◌, subst}
use Prim.Native.Nat.{ℕ, ◌+◌, ◌≤◌, ◌<◌}
use mathlib.Core.List.{List}
use native.Mathlib.Omega.{arith}
use borrow.Author.Count.{below_more}
use lib.ListN.{length, get_or, set, length-set}
use lib.Seq.{get_or-set_same, get_or-set_other}
use Rattle.theory.proofs.At.{StandsIn, stands_in, each_at, ordered_at}
use Rattle.climbs.specs.Ranking.{ranking_by}
use Rattle.climbs.proofs.ByRank.{ranking_inside, ranking_distinct, mem_ranking, length_ranking}

module _ (ds : List ℕ) (Right : ℕ → ℕ → Type 0) where
  -- the place of the row that is j-th by rank
  abbrev at : ℕ → ℕ
  at j = get_or (ranking_by ds) j 0

  -- the first j rows by rank have their numbers
  pub record FilledByRank (numbers : List ℕ) (j : ℕ) : Type 0 where
    pub long : length numbers ≡ 24
    pub right : (p : ℕ) → p < j → Right (at p) (get_or numbers (at p) 0)

  -- one more
  pub filled_more : {numbers : List ℕ} {j : ℕ} → length ds ≤ 24 → FilledByRank numbers j → j < length ds
      → (number : ℕ)
      → Right (at j) number
      → FilledByRank (set numbers (at j) number) (j + 1)
  filled_more {numbers} {j} few filled inside number is = record {
    long = length-set numbers (at j) number ∙ filled.long;
    right = below_more _ _
        (λ p h. subst (Right (at p)) (sym (get_or-set_other numbers (at j) (at p) number 0 (apart p h))) (filled.right p h))
        (subst (Right (at j)) (sym (get_or-set_same numbers (at j) number 0 room)) is);
  }
    where
      room : at j < length numbers
      room = omega (arith, filled.long, each_at (λ k. k < length ds) (ranking_by ds) (ranking_inside ds) j (omega (arith, length_ranking ds)))

      apart : (p : ℕ) → p < j → at p ≡ at j → ⊥
      apart p h = ordered_at (λ x y. x ≡ y → ⊥) (ranking_by ds) (ranking_distinct ds) p j h (omega (arith, length_ranking ds))

  -- in the end each row has its number
  pub filled_all : {numbers : List ℕ} {j : ℕ} → FilledByRank numbers j → length ds ≤ j → (k : ℕ) → k < length ds → Right k (get_or numbers k 0)
  filled_all {numbers} filled past k h =
      let stands : StandsIn (ranking_by ds) k = stands_in (mem_ranking ds k h) in
      subst (λ (row : ℕ). Right row (get_or numbers row 0)) stands.there (filled.right stands.place (omega (arith, stands.inside, length_ranking ds)))
