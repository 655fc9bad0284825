-- Which row stops me: document 02, request 1. The row that limits another and the point at which it does, why that is the reason, and what the explanation promises on lists.
use Rattle.std.specs.Prelude.{◌≡◌, ℕ, suc, ◌≤◌, ◌<◌, ◌⊎◌, List, T, pos, length}
use Rattle.theory.specs.Returned.{Returned, returned}
use Rattle.theory.specs.Gather.{First}
use Rattle.theory.specs.Row.{Row, AllWithin, FirstBroken}
use Rattle.theory.specs.Rank.{above}
use Rattle.theory.specs.Response.{IsResponse, Meets, AllMeet, FirstMiss}
use Rattle.theory.specs.Allowance.{raised, IsAllowance}
use Rattle.theory.specs.Points.{points, quotient, IsBound, touches}
use Rattle.theory.specs.Lists.{Shaped, rows_of}

-- row i is limited by row k at point p: row k is the first in rank that misses when the allowance is raised by one, and p is the first in its walk with its greatest quotient
pub record LimitedBy (rows : List Row) (i k p : ℕ) : Type 0 where
  pub allowance : ℕ
  pub is_allowance : IsAllowance rows i allowance
  pub first_to_miss : FirstMiss (raised rows i (suc allowance)) k
  pub first_greatest : First (λ q. IsBound rows k i (quotient rows k i q)) (points rows k) p

-- why the allowance a of row i is not larger, of row k and point p: with a more all rows meet, and row k responds by p; with one more than that row k misses, and every row above it meets
pub record TrueReason (rows : List Row) (i k p a : ℕ) : Type 0 where
  pub all_meet_with_it : AllMeet (raised rows i a)
  pub done_by_point : (R : ℕ) → IsResponse (raised rows i a) k R → R ≤ p
  pub misses_with_one_more : Meets (raised rows i (suc a)) k → ⊥
  pub above_meet_with_one_more : (h : ℕ) → h < length rows → T (above rows h k) → Meets (raised rows i (suc a)) h
  pub touched : T (touches rows i k)
  pub its_bound : IsBound rows k i (pos a)
  pub its_quotient : quotient rows k i p ≡ pos a

-- What the explanation of a row of a set returns, and the two figures that it gives: the number of the limiting row, and the point. The checks stand in their order,
-- and with a refusal both figures are 0.
pub data Explained (cs ds ts : List ℕ) (row : ℕ) : Returned → ℕ → ℕ → Type 0 where
  rows_out_of_range : (Shaped cs ds ts → ⊥) → Explained cs ds ts row (returned 3 0) 0 0
  row_breaks_limits : (k : ℕ) → Shaped cs ds ts → FirstBroken (rows_of cs ds ts) k → Explained cs ds ts row (returned 4 (suc k)) 0 0
  row_not_in_set :
      Shaped cs ds ts
      → AllWithin (rows_of cs ds ts)
      → (row ≡ 0) ⊎ (length cs < row)
      → Explained cs ds ts row (returned 10 0) 0 0
  row_misses :
      (i k : ℕ)
      → Shaped cs ds ts
      → AllWithin (rows_of cs ds ts)
      → row ≡ suc i
      → i < length cs
      → FirstMiss (rows_of cs ds ts) k
      → Explained cs ds ts row (returned 8 (suc k)) 0 0
  limited :
      (i k p : ℕ)
      → Shaped cs ds ts
      → AllWithin (rows_of cs ds ts)
      → row ≡ suc i
      → i < length cs
      → AllMeet (rows_of cs ds ts)
      → LimitedBy (rows_of cs ds ts) i k p
      → Explained cs ds ts row (returned 0 0) (suc k) p
