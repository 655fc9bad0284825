-- A leap of a climb. Some of the rows above are taken as linear: up to a time S such a row asks for S × C / T at least, and the others ask for what they ask
-- for up to now, so that S cannot be small where those that are linear leave little of the core.
use Rattle.std.specs.Prelude.{ℕ, ◌+◌, ◌-◌, ◌*◌, ◌/◌, ◌≤◌, ◌≡◌, Bool, true, false, List, [], ◌∷◌, Option, Some, None}
use Rattle.theory.specs.Response.{ceil}
use Rattle.demands.specs.Levels.{demand_of}

-- a row's share of the core in parts of 2^32, rounded down
unfoldable pub share : ℕ → ℕ → ℕ
share C T = (C * 4_294_967_296) / T

-- what the rows that are not linear ask for up to t; the part says of each row in turn whether it is linear, and those behind its end are not
unfoldable pub asked_beside : List Bool → List ℕ → List ℕ → ℕ → ℕ
asked_beside [] cs ts t = demand_of cs ts t
asked_beside (linear ∷ part) [] ts t = 0
asked_beside (linear ∷ part) (c ∷ cs) [] t = 0
asked_beside (true ∷ part) (c ∷ cs) (T ∷ ts) t = asked_beside part cs ts t
asked_beside (false ∷ part) (c ∷ cs) (T ∷ ts) t = ceil t T * c + asked_beside part cs ts t

-- the shares of the rows that are linear
unfoldable pub filled_by : List Bool → List ℕ → List ℕ → ℕ
filled_by [] cs ts = 0
filled_by (linear ∷ part) [] ts = 0
filled_by (linear ∷ part) (c ∷ cs) [] = 0
filled_by (true ∷ part) (c ∷ cs) (T ∷ ts) = share c T + filled_by part cs ts
filled_by (false ∷ part) (c ∷ cs) (T ∷ ts) = filled_by part cs ts

-- a row more: by its jobs, or as linear, and then its jobs are not counted
pub data Leaned (at C T rest free rest' free' : ℕ) : Type 0 where
  by_jobs : rest' ≡ rest → free' ≡ free → Leaned at C T rest free rest' free'
  as_linear : rest' ≡ rest - ceil at T * C → free' ≡ free - share C T → Leaned at C T rest free rest' free'

-- a time that is not before the least in question; where there is none, no time is in question
abbrev pub InQuestion : Option ℕ → ℕ → Type 0
InQuestion (Some least) S = least ≤ S
InQuestion None S = ⊥
