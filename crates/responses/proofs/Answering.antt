-- The rows answered by rank, from the highest down: the row at which a climb stops is the highest-ranked that misses, and in the end each row has its response time.
use mathlib.Core.Path.{sym, subst}
use Prim.Native.Nat.{ℕ, ◌≤◌, ◌<◌}
use mathlib.Core.List.{List}
use native.Mathlib.Omega.{arith}
use lib.Dec.{T}
use lib.ListN.{length}
use Rattle.theory.specs.Row.{row_at}
use Rattle.theory.specs.Rank.{above}
use Rattle.theory.specs.Response.{load, Meets, responds, misses, IsOutcome, FirstMiss}
use Rattle.theory.specs.Climb.{Climbed}
use Rattle.theory.proofs.Response.{climbed_outcome}
use Rattle.rows.specs.Values.{rows_in}
use Rattle.rows.specs.declared.Rows.{Rows}
use Rattle.climbs.proofs.InLists.{in_rows, in_lists, ranked, ranked_in_lists, above_before, Ranked, rank_of}
use Rattle.climbs.proofs.FilledByRank.{FilledByRank, filled_all}
use Rattle.responses.specs.InTime.{RespondsInTime}

module _ (rows : Rows) where
  -- the place in the table of the row at a place by rank
  abbrev at : ℕ → ℕ
  at = ranked rows.c.now rows.d.now rows.t.now rows.shaped

  -- the first j rows by rank have their response times
  abbrev pub Answering : List ℕ → ℕ → Type 0
  Answering = FilledByRank rows.d.now (λ k r. IsOutcome (rows_in rows) k (responds r))

  -- a row that misses is the highest-ranked to do so
  pub answering_stops : (response : List ℕ) (j : ℕ) → Answering response j → j < length rows.c.now
      → Climbed (load (rows_in rows) (at j)) (row_at (rows_in rows) (at j)).D misses
      → FirstMiss (rows_in rows) (at j)
  answering_stops response j so_far inside climbed = record {
    in_set = in_rows rows.c.now rows.d.now rows.t.now rows.shaped (ranked_in_lists rows.c.now rows.d.now rows.t.now rows.shaped j inside);
    misses = climbed_outcome (rows_in rows) (at j) misses climbed;
    above_meet = λ h in_set above. met (rank_of rows.c.now rows.d.now rows.t.now rows.shaped h (in_lists rows.c.now rows.d.now rows.t.now rows.shaped in_set)) above;
  }
    where
      met : {h : ℕ} → Ranked rows.c.now rows.d.now rows.t.now rows.shaped h → T (above (rows_in rows) h (at j)) → Meets (rows_in rows) h
      met stands ranks_above =
          let before : stands.place < j =
          above_before rows.c.now rows.d.now rows.t.now rows.shaped stands.place j stands.inside
          (subst (λ (x : ℕ). T (above (rows_in rows) x (at j))) (sym stands.there) ranks_above) in
          let outcome = so_far.right stands.place before in
          subst (Meets (rows_in rows)) stands.there (record { response = _; is_response = outcome.0; by_deadline = outcome.1 })

  -- after all rows each has its response time
  pub answering_ends : {response : List ℕ} {j : ℕ} → Answering response j → length rows.c.now ≤ j → (k : ℕ) → k < length rows.c.now → RespondsInTime (rows_in rows) response k
  answering_ends so_far past k inside =
      let many = rows.shaped.as_many_deadlines in
      let outcome = filled_all rows.d.now _ so_far (omega (arith, many)) k (omega (arith, many)) in
      record { is_response = outcome.0; by_deadline = outcome.1 }
