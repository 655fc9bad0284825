-- A set's rows by rank with their response times, as the code's value has them.
use Rattle.std.specs.Prelude.{ℕ, List}
use Rattle.rows.specs.declared.Rows.{Rows}
use Rattle.climbs.specs.Ranking.{InRankOrder, StandByRank}
use Rattle.trials.specs.declared.by_rank.ByRank.{ByRank}

-- rows are those of a set, and their response times those of a list, by rank
pub record AreTimedByRank (rows : Rows) (responses : List ℕ) (by_rank : ByRank) : Type 0 where
  pub stand : StandByRank rows.c.now rows.d.now rows.t.now by_rank.c.now by_rank.d.now by_rank.t.now
  pub by_response : InRankOrder rows.d.now responses by_rank.response.now
