-- A set's rows by rank, and a row of them with those above it, as the code's values have them.
use Rattle.std.specs.Prelude.{◌≡◌, ℕ, List, length, get_or, take}
use Rattle.rows.specs.declared.Rows.{Rows}
use Rattle.rows.specs.declared.held.HeldRows.{HeldRows}
use Rattle.demands.specs.declared.ranked.RankedRow.{RankedRow}
use Rattle.climbs.specs.Ranking.{numbers_at, StandByRank}

-- the rows that are held are those at some places
pub record AreRowsAt (rows : Rows) (places : List ℕ) (held : HeldRows) : Type 0 where
  pub as_many : held.n ≡ length places
  pub executions : take held.n held.c ≡ numbers_at places rows.c.now
  pub deadlines : take held.n held.d ≡ numbers_at places rows.d.now
  pub periods : take held.n held.t ≡ numbers_at places rows.t.now

-- rows are those of a set, by rank
abbrev pub AreByRank : Rows → Rows → Type 0
AreByRank rows by_rank = StandByRank rows.c.now rows.d.now rows.t.now by_rank.c.now by_rank.d.now by_rank.t.now

-- the row at a place of rows by rank, with those before it above it
pub record IsRowAt (by_rank : Rows) (j : ℕ) (row : RankedRow) : Type 0 where
  pub limit : row.limit ≡ get_or by_rank.d.now j 0
  pub own : row.own ≡ get_or by_rank.c.now j 0
  pub executions_above : row.c.now ≡ take j by_rank.c.now
  pub periods_above : row.t.now ≡ take j by_rank.t.now
