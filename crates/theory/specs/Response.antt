-- Response time and deadline: document 01, "Rank and response time".
use Rattle.std.specs.Prelude.{◌≡◌, ℕ, zero, suc, ◌+◌, ◌-◌, ◌*◌, ◌/◌, ◌≤◌, ◌<◌, Bool, true, false, List, T, ltb, eqb, length}
use Rattle.theory.specs.Row.{Row, row_at}
use Rattle.theory.specs.Rank.{places, above, rivals}
use Rattle.theory.specs.Gather.{sum, every}

-- the ceiling of t / m
unfoldable pub ceil : ℕ → ℕ → ℕ
ceil t m = (t + (m - 1)) / m

-- a row's own time
abbrev pub own : Row → ℕ
own row = row.C

-- what the rows of a list ask for up to time t
unfoldable pub demand : List Row → List ℕ → ℕ → ℕ
demand rows hs t = sum (λ h. ceil t (row_at rows h).T * (row_at rows h).C) hs

-- the load of row k at t: its own time and what its rivals ask for
unfoldable pub load : List Row → ℕ → ℕ → ℕ
load rows k t = own (row_at rows k) + demand rows (rivals rows k) t

-- R is the response time of row k: the least R ≥ 1 with R = load at R
pub record IsResponse (rows : List Row) (k R : ℕ) : Type 0 where
  pub at_least_one : 1 ≤ R
  pub solves : R ≡ load rows k R
  pub least : (S : ℕ) → 1 ≤ S → S ≡ load rows k S → R ≤ S

-- row k meets its deadline: it has a response time, which is at most D
pub record Meets (rows : List Row) (k : ℕ) : Type 0 where
  pub response : ℕ
  pub is_response : IsResponse rows k response
  pub by_deadline : response ≤ (row_at rows k).D

-- every row of the set meets
abbrev pub AllMeet : List Row → Type 0
AllMeet rows = (k : ℕ) → k < length rows → Meets rows k

-- the highest-ranked row that misses its deadline
pub record FirstMiss (rows : List Row) (k : ℕ) : Type 0 where
  pub in_set : k < length rows
  pub misses : Meets rows k → ⊥
  pub above_meet : (h : ℕ) → h < length rows → T (above rows h k) → Meets rows h

-- what the response time question answers
pub data Outcome : Type 0 where
  responds : ℕ → Outcome
  misses : Outcome

-- the outcome of row k: its response time where it meets, else that it misses
abbrev pub IsOutcome : List Row → ℕ → Outcome → Type 0
IsOutcome rows k (responds R) = IsResponse rows k R × (R ≤ (row_at rows k).D)
IsOutcome rows k misses = Meets rows k → ⊥

-- the climb from t: it ends at the first value that repeats or passes the limit; the rounds are bounded only so that it computes
unfoldable pub climb : (ℕ → ℕ) → ℕ → ℕ → ℕ → Outcome
climb next limit zero t = misses
climb next limit (suc rounds) t =
    elim (ltb limit t) [
      | true ↦ misses
      | false ↦ elim (eqb (next t) t) [ true ↦ responds t | false ↦ climb next limit rounds (next t) ]
    ]

-- the outcome of row k, computed: the climb from 1 to D
unfoldable pub outcome : List Row → ℕ → Outcome
outcome rows k = climb (load rows k) (row_at rows k).D (row_at rows k).D 1

-- whether an outcome is in time
abbrev pub in_time : Outcome → Bool
in_time (responds R) = true
in_time misses = false

-- whether every row of the set meets, computed
unfoldable pub on_time : List Row → Bool
on_time rows = every (λ k. in_time (outcome rows k)) (places rows)
