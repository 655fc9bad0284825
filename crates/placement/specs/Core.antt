-- The rows of a core. An assignment gives each row of a table its core, numbered from 1, and 0 to a row that is on none yet.
use Rattle.std.specs.Prelude.{ℕ, true, false, List, [], ◌∷◌, eqb, length, get_or}
use Rattle.theory.specs.Row.{Row}
use Rattle.theory.specs.Gather.{up_from, keep}

-- a table in memory
pub record Table : Type 0 where
  pub cores : ℕ
  pub rows : List Row

-- the rows on core m, in table order
unfoldable pub core_rows : List Row → List ℕ → ℕ → List Row
core_rows [] assignment m = []
core_rows (row ∷ rows) [] m = []
core_rows (row ∷ rows) (core ∷ assignment) m = elim (eqb core m) [ true ↦ row ∷ core_rows rows assignment m | false ↦ core_rows rows assignment m ]

-- the core of row i
abbrev pub core_of : List ℕ → ℕ → ℕ
core_of assignment i = get_or assignment i 0

-- the places of the rows on core m, in table order
unfoldable pub places_on : List ℕ → ℕ → List ℕ
places_on assignment m = keep (λ h. eqb (core_of assignment h) m) (up_from 0 (length assignment))

-- the place of row i among the rows of its core: as many as stand before it there
unfoldable pub place_on_core : List ℕ → ℕ → ℕ
place_on_core assignment i = length (keep (λ h. eqb (core_of assignment h) (core_of assignment i)) (up_from 0 i))
