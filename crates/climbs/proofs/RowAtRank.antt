-- The row at a place of a set's rows by rank, with those above it, is the set's row there: its limit, its load, its climb, and where the climb may start.
use mathlib.Core.Path.{◌≡◌, sym, ◌∙◌}
use Prim.Native.Nat.{ℕ, ◌+◌, ◌≤◌, ◌<◌}
use lib.ListN.{length, get_or}
use Rattle.theory.specs.Row.{row_at}
use Rattle.theory.specs.Response.{Outcome, load}
use Rattle.theory.specs.Climb.{LeastRoom, Start, Climbed}
use Rattle.demands.specs.Loads.{load_in}
use Rattle.demands.specs.declared.ranked.RankedRow.{RankedRow}
use Rattle.rows.specs.Values.{rows_in}
use Rattle.rows.specs.declared.Rows.{Rows}
use Rattle.climbs.specs.Ranking.{ranking_by}
use Rattle.climbs.specs.Placed.{AreByRank, IsRowAt}
use Rattle.climbs.proofs.InLists.{deadline_of}
use Rattle.climbs.proofs.StandByRank.{deadline_by_rank, load_here, Following, start_following, following_more}

module _ (rows by_rank : Rows) (stand : AreByRank rows by_rank) (j : ℕ) (inside : j < length rows.c.now) {row : RankedRow} (here : IsRowAt by_rank j row) where
  -- the place of the row in the set
  abbrev k : ℕ
  k = get_or (ranking_by rows.d.now) j 0

  pub limit_of_row : row.limit ≡ (row_at (rows_in rows) k).D
  limit_of_row = here.limit ∙ deadline_by_rank stand j inside ∙ sym (deadline_of rows.c.now rows.d.now rows.t.now stand.shaped k)

  pub load_of_row : load_in row ≡ load (rows_in rows) k
  load_of_row = rw (here.own, here.executions_above, here.periods_above) (load_here stand j inside)

  -- what its climb comes to is what the climb of the set's row comes to
  pub climb_of_row : (outcome : Outcome) → Climbed (load_in row) row.limit outcome → Climbed (load (rows_in rows) k) (row_at (rows_in rows) k).D outcome
  climb_of_row outcome climbed = rw (limit_of_row, load_of_row) at climbed

  -- its climb may start its own time after the response time of the row before
  pub start_of_row : {r : ℕ} → Following by_rank.c.now by_rank.t.now j r → Start (load_in row) (r + row.own)
  start_of_row {r} following = rw (here.own, here.executions_above, here.periods_above) (start_following stand j inside r following)

  -- where it responds by its deadline, it is the row before the next place
  pub following_of_row : {r : ℕ} → LeastRoom (load_in row) r → r ≤ row.limit → Following by_rank.c.now by_rank.t.now (j + 1) r
  following_of_row {r} least by_limit =
      following_more stand j inside r (rw (here.own, here.executions_above, here.periods_above) at least) (rw (here.limit, deadline_by_rank stand j inside) at by_limit)
