-- Scheduling points, slack, quotients, bounds and the point allowance: document 01, "Scheduling points".
use Rattle.std.specs.Prelude.{◌≡◌, ℕ, zero, suc, ◌*◌, ◌/◌, ◌<◌, Bool, true, false, ◌||◌, T, ltb, eqb, ℤ, pos, negsuc, ◌-ℤ◌, nat_abs, ◌≤ℤ◌, length}
use mathlib.Core.List.{List, [], ◌∷◌, ◌++◌, map, Memᴰ}
use Rattle.std.specs.Int.Signed.{le_z}
use Rattle.theory.specs.Row.{Row, row_at}
use Rattle.theory.specs.Gather.{keep, best}
use Rattle.theory.specs.Rank.{places, above, rival, levels}
use Rattle.theory.specs.Response.{ceil, load}

-- the largest multiple of m not above t
unfoldable pub last_multiple : ℕ → ℕ → ℕ
last_multiple m t = t / m * m

-- the walk at a level and a time, over the rows above by rank, highest first; level j + 1 goes by the period of the row after the first j
unfoldable pub walk : List Row → ℕ → ℕ → List ℕ
walk hs zero t = t ∷ []
walk hs (suc j) t =
    let s = last_multiple (row_at hs j).T t in
    elim (eqb s t) [
      | true ↦ walk hs j t
      | false ↦ elim (ltb 0 s) [ true ↦ walk hs j s ++ walk hs j t | false ↦ walk hs j t ]
    ]

-- the points of row k: the walk at the level of its lowest rival, from D
unfoldable pub points : List Row → ℕ → List ℕ
points rows k = walk (levels rows k) (length (levels rows k)) (row_at rows k).D

-- the slack of row k at t
unfoldable pub slack : List Row → ℕ → ℕ → ℤ
slack rows k t = pos t -ℤ pos (load rows k t)

-- row k has a scheduling point of non-negative slack
pub record HasPoint (rows : List Row) (k : ℕ) : Type 0 where
  pub point : ℕ
  pub among_points : Memᴰ point (points rows k)
  pub slack_left : pos 0 ≤ℤ slack rows k point

-- z / m, rounded towards minus infinity
unfoldable pub floor_div : ℤ → ℕ → ℤ
floor_div (pos n) m = pos (n / m)
floor_div (negsuc n) m = negsuc (n / m)

-- how often row k's load at t counts C of row i: the divisor of the quotient
unfoldable pub times : List Row → ℕ → ℕ → ℕ → ℕ
times rows k i t = elim (eqb k i) [ true ↦ 1 | false ↦ ceil t (row_at rows i).T ]

-- the quotient of row k for row i at t
unfoldable pub quotient : List Row → ℕ → ℕ → ℕ → ℤ
quotient rows k i t = floor_div (slack rows k t) (times rows k i t)

-- b is row k's bound on row i: the greatest quotient over its points
pub record IsBound (rows : List Row) (k i : ℕ) (b : ℤ) : Type 0 where
  pub point : ℕ
  pub among_points : Memᴰ point (points rows k)
  pub its_quotient : quotient rows k i point ≡ b
  pub greatest : (p : ℕ) → Memᴰ p (points rows k) → quotient rows k i p ≤ℤ b

-- raising row i touches row k: k is i, or i is a rival of k
abbrev pub touches : List Row → ℕ → ℕ → Bool
touches rows i k = eqb k i || rival rows i k

-- a is the point allowance of row i: the smallest bound over i and all rows ranked below it
pub record IsPointAllowance (rows : List Row) (i : ℕ) (a : ℤ) : Type 0 where
  pub row : ℕ
  pub in_set : row < length rows
  pub touched : T (touches rows i row)
  pub its_bound : IsBound rows row i a
  pub smallest : (k : ℕ) (b : ℤ) → k < length rows → T (touches rows i k) → IsBound rows k i b → a ≤ℤ b

-- the first row in rank with no point of non-negative slack
pub record FirstPointless (rows : List Row) (k : ℕ) : Type 0 where
  pub in_set : k < length rows
  pub pointless : HasPoint rows k → ⊥
  pub above_have : (h : ℕ) → h < length rows → T (above rows h k) → HasPoint rows h

-- the greatest and the smallest of a first number and others, computed
abbrev pub greatest_of : ℤ → List ℤ → ℤ
greatest_of = best (λ next first. le_z first next)

abbrev pub smallest_of : ℤ → List ℤ → ℤ
smallest_of = best (λ next first. le_z next first)

-- row k's bound on row i, computed; D is a point of every row
unfoldable pub bound : List Row → ℕ → ℕ → ℤ
bound rows k i = greatest_of (quotient rows k i (row_at rows k).D) (map (quotient rows k i) (points rows k))

-- the point allowance of row i, computed
unfoldable pub point_allowance : List Row → ℕ → ℤ
point_allowance rows i = smallest_of (bound rows i i) (map (λ k. bound rows k i) (keep (touches rows i) (places rows)))

-- the allowance of row i as the point formula gives it, where it is no negative number
unfoldable pub allowance : List Row → ℕ → ℕ
allowance rows i = nat_abs (point_allowance rows i)

-- the allowance of a core with these rows, computed
unfoldable pub core_allowance : List Row → ℕ
core_allowance rows = nat_abs (smallest_of (point_allowance rows 0) (map (point_allowance rows) (places rows)))
