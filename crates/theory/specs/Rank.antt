-- Rank on a core, and who is a rival of whom: document 01, "Rank and response time". Both look at deadlines and places only.
use Rattle.std.specs.Prelude.{ℕ, Bool, List, map, length}
use Rattle.theory.specs.Row.{Row, row_at}
use Rattle.theory.specs.Gather.{less_or_tied, up_from, keep, sort}

-- the places of a set's rows, in table order
abbrev pub places : List Row → List ℕ
places rows = up_from 0 (length rows)

-- row h ranks above row k: it has the smaller D, or an equal D and the earlier place
abbrev pub above : List Row → ℕ → ℕ → Bool
above rows h k = less_or_tied (row_at rows h).D (row_at rows k).D h k

-- row h is a rival of row k: row k's sum runs over it
abbrev pub rival : List Row → ℕ → ℕ → Bool
rival rows h k = above rows h k

-- the rivals of row k
unfoldable pub rivals : List Row → ℕ → List ℕ
rivals rows k = keep (λ h. rival rows h k) (places rows)

-- the rivals of row k as rows, by rank, highest first: level j of its walk is the j-th
unfoldable pub levels : List Row → ℕ → List Row
levels rows k = map (row_at rows) (sort (above rows) (rivals rows k))
