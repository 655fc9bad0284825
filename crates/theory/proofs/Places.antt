-- The places of a set's rows: those below its length.
use Prim.Native.Nat.{ℕ, ◌<◌, zero-le}
use native.Mathlib.Omega.{arith}
use mathlib.Core.List.{List, Memᴰ}
use lib.ListN.{length}
use Rattle.theory.specs.Gather.{All}
use Rattle.theory.specs.Row.{Row}
use Rattle.theory.specs.Rank.{places}
use Rattle.theory.proofs.Each.{all_map, all_up_from}
use Rattle.theory.proofs.Member.{all_at, mem_up_from}

module _ (rows : List Row) where
  -- each place is below the length
  pub places_inside : All (λ k. k < length rows) (places rows)
  places_inside = all_map (places rows) (λ k b. omega arith) (all_up_from 0 (length rows))

  -- what is below the length is a place
  pub mem_places : (k : ℕ) → k < length rows → Memᴰ k (places rows)
  mem_places k h = mem_up_from 0 (length rows) k zero-le (omega arith)

  -- a place is below the length
  pub place_inside : (k : ℕ) → Memᴰ k (places rows) → k < length rows
  place_inside k m = all_at (λ h. h < length rows) m places_inside
