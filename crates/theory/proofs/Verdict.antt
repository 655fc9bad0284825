-- Demand 3, first half: all rows are on time by response times exactly when each has a scheduling point of non-negative slack. And the caution of
-- document 01: a single row's verdict by points is exact when all its rivals meet, the first row in rank to miss is the same always.
use mathlib.Core.Path.{ap}
use Prim.Native.Nat.{ℕ, ◌≤◌, ◌<◌}
use mathlib.Core.Logic.{◌↔◌}
use mathlib.Core.List.{List}
use native.Mathlib.Omega.{arith}
use native.Mathlib.Nat.{le_refl}
use lib.Dec.{T}
use lib.ListN.{length}
use Rattle.theory.specs.Row.{Row, row_at, WithinLimits, AllWithin}
use Rattle.theory.specs.Rank.{rival, levels}
use Rattle.theory.specs.Response.{own, load, Meets, AllMeet, FirstMiss}
use Rattle.theory.specs.Points.{points, slack, HasPoint, FirstPointless}
use Rattle.theory.proofs.Response.{Room, meets_room, room_meets}
use Rattle.theory.proofs.Rank.{Level, level, load_by_levels, rival_above}
use Rattle.theory.proofs.Walk.{LevelRoom, PointAt, walk_finds, walk_within, walk_positive}
use Rattle.theory.proofs.Signed.{slack_left}

-- what the theory needs of a row; a row within the limits has it, and raising C keeps it
pub record Steady (row : Row) : Type 0 where
  pub runs : 1 ≤ row.C
  pub some_deadline : 1 ≤ row.D
  pub by_period : row.D ≤ row.T

abbrev pub AllSteady : List Row → Type 0
AllSteady rows = (k : ℕ) → k < length rows → Steady (row_at rows k)

pub within_steady : (rows : List Row) → AllWithin rows → AllSteady rows
within_steady rows within k h =
    let w : WithinLimits (row_at rows k) = within k h in
    record { runs = w.runs; some_deadline = omega (arith, w.runs, w.by_deadline); by_period = w.by_period }

-- all rivals of row k meet
abbrev pub RivalsMeet : List Row → ℕ → Type 0
RivalsMeet rows k = (h : ℕ) → h < length rows → T (rival rows h k) → Meets rows h

module _ (rows : List Row) (steady : AllSteady rows) where
  -- a point of non-negative slack is room by the deadline
  point_room : (k : ℕ) → k < length rows → HasPoint rows k → Room rows k (row_at rows k).D
  unfolding points slack
  point_room k inside p = record {
    time = p.point;
    room = record {
      from_one = walk_positive (levels rows k) (length (levels rows k)) (row_at rows k).D p.point (steady k inside).some_deadline p.among_points;
      enough = (slack_left p.point (load rows k p.point)).0 p.slack_left;
    };
    within = walk_within (levels rows k) (length (levels rows k)) (row_at rows k).D p.point p.among_points;
  }

  -- so a row with such a point meets, whatever its rivals do
  pub point_meets : (k : ℕ) → k < length rows → HasPoint rows k → Meets rows k
  point_meets k inside p = room_meets rows k (steady k inside).runs (point_room k inside p)

  -- a rival that meets has room by its period against the levels before it
  level_room : (k : ℕ) → RivalsMeet rows k → (j : ℕ) → j < length (levels rows k) → LevelRoom (levels rows k) j
  unfolding load
  level_room k meet j h =
      let l : Level rows k j = level rows k j h in
      let s : Steady (row_at rows l.row) = steady l.row l.in_set in
      let m : Meets rows l.row = meet l.row l.in_set l.is_rival in
      record {
        time = m.response;
        from_one = m.is_response.at_least_one;
        by_period = omega (arith, m.by_deadline, s.by_period, ap (λ (r : Row). r.T) l.its_row);
        enough = omega (arith, m.is_response.solves, l.before_ask m.response, ap (λ (r : Row). r.C) l.its_row);
      }

  -- where all its rivals meet, a row with room has a point
  room_point : (k : ℕ) → RivalsMeet rows k → Room rows k (row_at rows k).D → HasPoint rows k
  unfolding points slack
  room_point k meet r =
      let n = length (levels rows k) in
      let p : PointAt (levels rows k) n (own (row_at rows k)) (row_at rows k).D =
      walk_finds (levels rows k) n (level_room k meet) n (le_refl n) (own (row_at rows k)) (row_at rows k).D r.time r.room.from_one r.within
      (omega (arith, r.room.enough, load_by_levels rows k r.time)) in
      record {
        point = p.point;
        among_points = p.yielded;
        slack_left = (slack_left p.point (load rows k p.point)).1 (omega (arith, p.enough, load_by_levels rows k p.point));
      }

  -- the caution: where all its rivals meet, a row's verdict by points is exact
  pub verdict_by_points : (k : ℕ) → k < length rows → RivalsMeet rows k → Meets rows k ↔ HasPoint rows k
  verdict_by_points k inside meet = (λ m. room_point k meet (meets_room rows k m), λ p. point_meets k inside p)

  -- DEMAND 3, first half
  pub on_time_by_points : AllMeet rows ↔ ((k : ℕ) → k < length rows → HasPoint rows k)
  on_time_by_points =
      (λ all k inside. (verdict_by_points k inside (λ h in_set t. all h in_set)).0 (all k inside), λ have k inside. point_meets k inside (have k inside))

  -- the first row in rank to miss is the same by response times and by points
  pub first_miss_by_points : (k : ℕ) → FirstMiss rows k ↔ FirstPointless rows k
  first_miss_by_points k = (
    λ f. record {
      in_set = f.in_set;
      pointless = λ p. f.misses (point_meets k f.in_set p);
      above_have = λ h inside t.
          (verdict_by_points h inside (λ x in_set r. f.above_meet x in_set (rival_above rows x h k r t))).0 (f.above_meet h inside t);
    },
    λ f. record {
      in_set = f.in_set;
      misses = λ m. f.pointless ((verdict_by_points k f.in_set (λ h inside t. point_meets h inside (f.above_have h inside t))).0 m);
      above_meet = λ h inside t. point_meets h inside (f.above_have h inside t);
    },
  )
