-- The cores as the code holds them: an array of arrays, for each core its rows' places, beside an array of counts.
use Rattle.std.specs.Prelude.{◌≡◌, ℕ, suc, ◌<◌, List, [], length, get_or, take}
use Rattle.placement.specs.Core.{core_of, places_on}

-- the places held for core m + 1: as many as are counted, at the front of its array
abbrev pub held_places : List (List ℕ) → List ℕ → ℕ → List ℕ
held_places rows counts m = take (get_or counts m 0) (get_or rows m [])

-- under an assignment, for each core how many rows it has, and at the front of its array their places in table order
pub record HoldsCores (assignment : List ℕ) (rows : List (List ℕ)) (counts : List ℕ) : Type 0 where
  pub eight_arrays : length rows ≡ 8
  pub eight_counts : length counts ≡ 8
  pub how_many : (m : ℕ) → m < 8 → get_or counts m 0 ≡ length (places_on assignment (suc m))
  pub places : (m : ℕ) → m < 8 → held_places rows counts m ≡ places_on assignment (suc m)

-- the cores hold an assignment of n rows under which row i is on none
pub record HeldWithout (n i : ℕ) (rows : List (List ℕ)) (counts : List ℕ) : Type 0 where
  pub assignment : List ℕ
  pub one_each : length assignment ≡ n
  pub on_none : core_of assignment i ≡ 0
  pub holds : HoldsCores assignment rows counts
