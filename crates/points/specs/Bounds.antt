-- The bounds of a row on its rivals and on itself, as the code holds them: the best quotients of its walk.
use Rattle.std.specs.Prelude.{◌≡◌, ℕ, ◌≤◌, ◌<◌, List, ℤ, pos, length, get_or, replicate}
use Rattle.demands.specs.declared.ranked.RankedRow.{RankedRow}
use Rattle.walks.specs.Quotients.{least, NewPoints, AllLifted}

-- the best quotients of a row's walk from a limit, over rows above it with these C and T: each lifted from below every quotient
abbrev pub BestOfWalk : ℕ → ℕ → List ℕ → List ℕ → List ℤ → Type 0
BestOfWalk limit own cs ts best = AllLifted own cs ts (NewPoints cs ts (length cs) limit 0) (replicate 25 least) best

abbrev pub BestOfWalkIn : RankedRow → List ℤ → Type 0
BestOfWalkIn row = BestOfWalk row.limit row.own row.c.now row.t.now

-- entry j of row k's bounds is on row i: a rival with that place, or, after the rivals, row k itself
pub data IsOn (places : List ℕ) (k i j : ℕ) : Type 0 where
  a_rival : j < length places → get_or places j 0 ≡ i → IsOn places k i j
  itself : j ≡ length places → k ≡ i → IsOn places k i j

-- a signed number from 0 to a million
pub record IsSmall (z : ℤ) : Type 0 where
  pub number : ℕ
  pub by_million : number ≤ 1_000_000
  pub is_number : z ≡ pos number
