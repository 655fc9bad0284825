-- Rows above another as two lists of numbers, C and T: what they ask for, and what keeps the sums small.
use Rattle.std.specs.Prelude.{◌≡◌, ℕ, ◌+◌, ◌*◌, ◌≤◌, ◌<◌, List, [], ◌∷◌, length, get_or}
use Rattle.theory.specs.Response.{ceil}

-- what rows with these C and T ask for up to t
unfoldable pub demand_of : List ℕ → List ℕ → ℕ → ℕ
demand_of [] ts t = 0
demand_of (c ∷ cs) [] t = 0
demand_of (c ∷ cs) (T ∷ ts) t = ceil t T * c + demand_of cs ts t

-- the load of a row with its own time and these rows above it
abbrev pub load_of : ℕ → List ℕ → List ℕ → ℕ → ℕ
load_of own cs ts t = own + demand_of cs ts t

-- C and T of each row, with 1 ≤ T, C ≤ T ≤ 1,000,000, and at most 24 rows: no sum up to a million passes 48 million
pub record Small (cs ts : List ℕ) : Type 0 where
  pub as_many : length ts ≡ length cs
  pub few : length cs ≤ 24
  pub period_positive : (j : ℕ) → j < length cs → 1 ≤ get_or ts j 0
  pub by_period : (j : ℕ) → j < length cs → get_or cs j 0 ≤ get_or ts j 0
  pub by_million : (j : ℕ) → j < length cs → get_or ts j 0 ≤ 1_000_000
