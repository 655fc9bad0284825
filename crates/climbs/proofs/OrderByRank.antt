-- What an order that begins with the places by rank is for the code: each of its entries is a row's place, and what is gathered at them is the rows by rank.
use mathlib.Core.Path.{◌≡◌, sym, ap, ◌∙◌}
use Prim.Native.Nat.{ℕ, ◌≤◌, ◌<◌}
use mathlib.Core.List.{List}
use native.Mathlib.Omega.{arith}
use lib.ListN.{length, take, length-take}
use Rattle.theory.specs.Gather.{All}
use Rattle.theory.proofs.Each.{all_map}
use Rattle.climbs.specs.Ranking.{ranking_by, numbers_at, numbers_by_rank}
use Rattle.climbs.proofs.ByRank.{ranking_inside, length_ranking}

-- the places by rank that an order begins with are below as many as there are rows
pub places_below : (ds order : List ℕ) {n : ℕ} → take (length ds) order ≡ ranking_by ds → length ds ≤ n → All (λ h. h < n) (take (length ds) order)
places_below ds order by_rank fits = rw by_rank (all_map (ranking_by ds) (λ h inside. omega arith) (ranking_inside ds))

module _ (cs ds order : List ℕ) (same : length ds ≡ length cs) (ranked : take (length ds) order ≡ ranking_by ds) where
  -- an order by rank has an entry for each row
  pub ranked_long : length cs ≤ length order
  ranked_long = omega (arith, length-take (length ds) order, ap length ranked, length_ranking ds)

  -- its first entries are places of every list as long as the rows are many, and no more than 24 where the rows are not
  pub places_of_rows : length cs ≤ 24 → {n : ℕ} → length cs ≤ n → (length (take (length cs) order) ≤ 24) × All (λ h. h < n) (take (length cs) order)
  places_of_rows few fits = (omega (arith, length-take (length cs) order), rw (← same) (places_below ds order ranked (omega arith)))

-- an array into which numbers are gathered at them has the numbers by rank at its front
pub gathered_by_rank : (ds order numbers array : List ℕ) (n : ℕ) → n ≡ length ds → take (length ds) order ≡ ranking_by ds
    → take (length (take n order)) array ≡ numbers_at (take n order) numbers
    → take n array ≡ numbers_by_rank ds numbers
gathered_by_rank ds order numbers array n all by_rank gathered =
    let first : take n order ≡ ranking_by ds = ap (λ (m : ℕ). take m order) all ∙ by_rank in
    ap (λ (m : ℕ). take m array) (all ∙ sym (length_ranking ds)) ∙ (rw first at gathered)

-- three lists are C, D and T of a set's rows, by rank
pub record RowsByRank (cs ds ts executions deadlines periods : List ℕ) : Type 0 where
  pub executions_by_rank : executions ≡ numbers_by_rank ds cs
  pub deadlines_by_rank : deadlines ≡ numbers_by_rank ds ds
  pub periods_by_rank : periods ≡ numbers_by_rank ds ts

-- so are the fronts of arrays into which they are gathered
pub rows_gathered : (cs ds ts order executions deadlines periods : List ℕ) → length ds ≡ length cs → take (length ds) order ≡ ranking_by ds
    → take (length (take (length cs) order)) executions ≡ numbers_at (take (length cs) order) cs
    → take (length (take (length cs) order)) deadlines ≡ numbers_at (take (length cs) order) ds
    → take (length (take (length cs) order)) periods ≡ numbers_at (take (length cs) order) ts
    → RowsByRank cs ds ts (take (length cs) executions) (take (length cs) deadlines) (take (length cs) periods)
rows_gathered cs ds ts order executions deadlines periods as_many by_rank of_C of_D of_T = record {
  executions_by_rank = gathered_by_rank ds order cs executions (length cs) (sym as_many) by_rank of_C;
  deadlines_by_rank = gathered_by_rank ds order ds deadlines (length cs) (sym as_many) by_rank of_D;
  periods_by_rank = gathered_by_rank ds order ts periods (length cs) (sym as_many) by_rank of_T;
}
