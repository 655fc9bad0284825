-- A set's rows by rank: they are rows within the limits too, each loaded by those before it as in the set; and where a climb may start when they are climbed one
-- after another.
use mathlib.Core.Path.{◌≡◌, refl, ◌∙◌, ap}
use Prim.Native.Nat.{ℕ, ◌+◌, ◌≤◌, ◌<◌, zero-le}
use mathlib.Core.List.{List}
use native.Mathlib.Omega.{arith}
use native.Mathlib.Numerals.{add-one}
use lib.ListN.{length, get_or, take, length-map}
use Rattle.theory.specs.Row.{AllWithin, WithinLimits}
use Rattle.theory.specs.Response.{load}
use Rattle.theory.specs.Climb.{LeastRoom, Start}
use Rattle.theory.specs.Lists.{rows_of, Shaped}
use Rattle.theory.proofs.Each.{all_map}
use Rattle.demands.specs.Levels.{load_of, Small}
use Rattle.rows.specs.declared.Rows.{Rows}
use Rattle.climbs.specs.Ranking.{ranking_by, InRankOrder, StandByRank}
use Rattle.climbs.specs.Placed.{AreRowsAt}
use Rattle.rows.specs.declared.held.HeldRows.{HeldRows}
use Rattle.climbs.proofs.ByRank.{length_ranking, ranking_inside}
use Rattle.climbs.proofs.Gathered.{shaped_at, within_at}
use Rattle.climbs.proofs.Load.{limits_at, small_above}
use Rattle.climbs.proofs.InLists.{ranked, ranked_in_lists}
use Rattle.climbs.proofs.AtRank.{load_at_rank, entry_at_rank}
use Rattle.climbs.proofs.After.{RespondsBefore, start_after}

-- by rank there are as many numbers as rows
pub length_by_rank : (ds xs list : List ℕ) → InRankOrder ds xs list → length list ≡ length ds
length_by_rank ds xs list in_order = ap length in_order ∙ length-map (ranking_by ds) (λ h. get_or xs h 0) ∙ length_ranking ds

-- rows that are gathered at the places by rank stand by rank
pub gathered_stand : (rows : Rows) {held : HeldRows} → AreRowsAt rows (ranking_by rows.d.now) held
    → StandByRank rows.c.now rows.d.now rows.t.now (take held.n held.c) (take held.n held.d) (take held.n held.t)
gathered_stand rows at_places = record {
  shaped = rows.shaped;
  within = rows.within;
  by_C = at_places.executions;
  by_D = at_places.deadlines;
  by_T = at_places.periods;
}

-- the row before place j responds at r, within a million; r is 0 before the first
pub record Following (executions periods : List ℕ) (j r : ℕ) : Type 0 where
  pub responds_before : (same : length periods ≡ length executions) → RespondsBefore executions periods same j r
  pub by_million : r ≤ 1_000_000

pub following_begins : (executions periods : List ℕ) → Following executions periods 0 0
following_begins executions periods = record { responds_before = λ same. refl; by_million = zero-le }

module _ {cs ds ts executions deadlines periods : List ℕ} (stand : StandByRank cs ds ts executions deadlines periods) where
  -- the row at a place by rank
  abbrev at : ℕ → ℕ
  at = ranked cs ds ts stand.shaped

  -- its numbers keep the limits
  pub limits_by_rank : (p : ℕ) → p < length cs → WithinLimits (record { C = get_or cs (at p) 0; D = get_or ds (at p) 0; T = get_or ts (at p) 0 })
  limits_by_rank p h = limits_at cs ds ts stand.shaped stand.within (at p) (ranked_in_lists cs ds ts stand.shaped p h)

  -- they stand at the place in the arrays
  pub execution_by_rank : (p : ℕ) → p < length cs → get_or executions p 0 ≡ get_or cs (at p) 0
  execution_by_rank p h = entry_at_rank cs ds ts stand.shaped p h cs executions stand.by_C

  pub period_by_rank : (p : ℕ) → p < length cs → get_or periods p 0 ≡ get_or ts (at p) 0
  period_by_rank p h = entry_at_rank cs ds ts stand.shaped p h ts periods stand.by_T

  pub deadline_by_rank : (p : ℕ) → p < length cs → get_or deadlines p 0 ≡ get_or ds (at p) 0
  deadline_by_rank p h = entry_at_rank cs ds ts stand.shaped p h ds deadlines stand.by_D

  -- there are as many as rows
  pub as_many_by_rank : length executions ≡ length cs
  as_many_by_rank = length_by_rank ds cs executions stand.by_C ∙ stand.shaped.as_many_deadlines

  -- so they are rows, within the limits
  pub shaped_by_rank : Shaped executions deadlines periods
  shaped_by_rank =
      rw (stand.by_C, stand.by_D, stand.by_T)
      (shaped_at cs ds ts (ranking_by ds) (omega (arith, stand.shaped, length_ranking ds)) (omega (arith, stand.shaped, length_ranking ds)))

  pub within_by_rank : AllWithin (rows_of executions deadlines periods)
  within_by_rank =
      rw (stand.by_C, stand.by_D, stand.by_T)
      (within_at cs ds ts (ranking_by ds) stand.shaped stand.within (all_map (ranking_by ds) (λ h inside. omega (arith, stand.shaped.as_many_deadlines)) (ranking_inside ds)))

  -- each C that stands there is from 1 to a million
  pub execution_within : (p : ℕ) → p < length cs → (1 ≤ get_or executions p 0) × (get_or executions p 0 ≤ 1_000_000)
  execution_within p h = (omega (arith, execution_by_rank p h, limits_by_rank p h), omega (arith, execution_by_rank p h, limits_by_rank p h))

  module _ (j : ℕ) (inside : j < length cs) where
    -- the load of the row at the place, over what stands before it
    abbrev load_at_place : ℕ → ℕ
    load_at_place = load_of (get_or executions j 0) (take j executions) (take j periods)

    pub load_here : load_at_place ≡ load (rows_of cs ds ts) (at j)
    load_here = load_at_rank cs ds ts stand.shaped j inside executions periods stand.by_C stand.by_T

    -- no sum over it is large
    pub small_before : Small (take j executions) (take j periods)
    small_before = small_above executions deadlines periods shaped_by_rank within_by_rank j

    -- its climb may start its own time after the response time of the row before
    pub start_following : (r : ℕ) → Following executions periods j r → Start load_at_place (r + get_or executions j 0)
    start_following r following =
        let same : length periods ≡ length executions = shaped_by_rank.as_many_periods in
        start_after executions periods same j (get_or executions j 0) r (omega (arith, as_many_by_rank)) small_before
        (λ i h. (execution_within i (omega arith)).0) (execution_within j inside).0 (following.responds_before same)

    -- where it responds by its deadline, it is the row before the next place
    pub following_more : (r : ℕ) → LeastRoom load_at_place r → r ≤ get_or ds (at j) 0 → Following executions periods (j + 1) r
    following_more r least by_deadline = record {
      responds_before = λ same. rw (add-one j) least;
      by_million = omega (arith, by_deadline, limits_by_rank j inside);
    }
