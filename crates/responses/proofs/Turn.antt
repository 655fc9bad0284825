-- A turn of the climbs by rank: what the climb of the row there comes to is what the set's row comes to.
use mathlib.Core.Path.{◌≡◌}
use Prim.Native.Nat.{ℕ, ◌+◌, ◌≤◌, ◌<◌}
use mathlib.Core.List.{List}
use native.Mathlib.Omega.{arith}
use lib.ListN.{length, get_or, set}
use Rattle.theory.specs.Response.{responds, misses, FirstMiss}
use Rattle.theory.specs.Climb.{Climbed}
use Rattle.theory.proofs.Response.{climbed_outcome}
use Rattle.demands.specs.Loads.{load_in}
use Rattle.demands.specs.declared.ranked.RankedRow.{RankedRow}
use Rattle.rows.specs.Values.{rows_in}
use Rattle.rows.specs.declared.Rows.{Rows}
use Rattle.climbs.specs.Ranking.{ranking_by}
use Rattle.climbs.specs.Placed.{AreByRank, IsRowAt}
use Rattle.climbs.specs.declared.ranked_set.RankedSet.{RankedSet}
use Rattle.climbs.proofs.InLists.{order_ranked, order_in_lists}
use Rattle.climbs.proofs.StandByRank.{Following, as_many_by_rank}
use Rattle.climbs.proofs.FilledByRank.{filled_more}
use Rattle.climbs.proofs.RowAtRank.{climb_of_row, following_of_row}
use Rattle.responses.specs.InTime.{RespondsInTime}
use Rattle.responses.proofs.Answering.{Answering, answering_stops, answering_ends}

-- the first j rows by rank have their response times, and `before` is that of the last of them
pub record TurnsTo (ranked : RankedSet) (by_rank : Rows) (response : List ℕ) (before j : ℕ) : Type 0 where
  pub so_far : Answering ranked.rows response j
  pub following : Following by_rank.c.now by_rank.t.now j before

module _ (ranked : RankedSet) (by_rank : Rows) (stand : AreByRank ranked.rows by_rank) (j : ℕ) (within : j < length by_rank.c.now) {row : RankedRow} (here : IsRowAt by_rank j row) where
  inside : j < length ranked.rows.c.now
  inside = omega (arith, as_many_by_rank stand)

  -- the place of the row in the set
  place : get_or ranked.order j 0 ≡ get_or (ranking_by ranked.rows.d.now) j 0
  place = let rows = ranked.rows in order_ranked rows.c.now rows.d.now rows.t.now rows.shaped ranked.order ranked.ranked j inside

  -- it is below 24
  pub place_fits : get_or ranked.order j 0 < 24
  place_fits = let rows = ranked.rows in omega (arith, rows.shaped.no_25th, order_in_lists rows.c.now rows.d.now rows.t.now rows.shaped ranked.order ranked.ranked j inside)

  -- it responds
  pub turn_responds : {response : List ℕ} {before : ℕ} → TurnsTo ranked by_rank response before j
      → (r : ℕ)
      → Climbed (load_in row) row.limit (responds r)
      → TurnsTo ranked by_rank (set response (get_or ranked.order j 0) r) r (j + 1)
  turn_responds {response} turns r climbed =
      let rows = ranked.rows in record {
        so_far =
            rw place
            (filled_more rows.d.now _ (omega (arith, rows.shaped)) turns.so_far (omega (arith, rows.shaped.as_many_deadlines, inside)) r
            (climbed_outcome (rows_in rows) _ (responds r) (climb_of_row rows by_rank stand j inside here (responds r) climbed)));
        following = following_of_row rows by_rank stand j inside here climbed.0 climbed.1;
      }

  -- it misses
  pub turn_misses : {response : List ℕ} {before : ℕ} → TurnsTo ranked by_rank response before j → Climbed (load_in row) row.limit misses → FirstMiss (rows_in ranked.rows) (get_or ranked.order j 0)
  turn_misses {response} turns climbed =
      let rows = ranked.rows in
      rw place
      (answering_stops ranked.rows response j turns.so_far inside
      (climb_of_row rows by_rank stand j inside here misses climbed))

-- after all turns each row of the set has its response time
pub turns_end : (ranked : RankedSet) (by_rank : Rows) → AreByRank ranked.rows by_rank
    → {response : List ℕ} {before j : ℕ}
    → TurnsTo ranked by_rank response before j
    → length by_rank.c.now ≤ j
    → (k : ℕ)
    → k < length ranked.rows.c.now
    → RespondsInTime (rows_in ranked.rows) response k
turns_end ranked by_rank stand turns past =
    answering_ends ranked.rows turns.so_far (omega (arith, as_many_by_rank stand))
