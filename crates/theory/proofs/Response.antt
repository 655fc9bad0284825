-- Response times: unique, found by the climb, and there exactly when some time up to the deadline has room. Most proofs want room and not
-- the least solution: this file converts one into the other.
use mathlib.Core.Path.{◌≡◌}
use Prim.Native.Nat.{ℕ, ◌≤◌, ◌<◌}
use mathlib.Core.List.{List}
use native.Mathlib.Omega.{arith}
use native.Mathlib.Nat.{le_antisymm, le_refl, le_trans}
use Rattle.theory.specs.Row.{Row, row_at}
use Rattle.theory.specs.Response.{load, IsResponse, Meets, Outcome, responds, misses, IsOutcome, climb, outcome}
use Rattle.theory.proofs.Demand.{load_mono}
use Rattle.theory.specs.Climb.{RoomAt, LeastRoom, Start, Climbed}
use Rattle.theory.proofs.Climb.{climb_right}

-- a response time is unique
pub response_unique : (rows : List Row) (k R S : ℕ) → IsResponse rows k R → IsResponse rows k S → R ≡ S
response_unique rows k R S r s =
    le_antisymm (r.least S s.at_least_one s.solves) (s.least R r.at_least_one r.solves)

-- row k has room by a time: some time up to it at which the load is no more than the time
pub record Room (rows : List Row) (k limit : ℕ) : Type 0 where
  pub time : ℕ
  pub room : RoomAt (load rows k) time
  pub within : time ≤ limit

-- a response time by a limit is room by it
pub response_room : (rows : List Row) (k R limit : ℕ) → IsResponse rows k R → R ≤ limit → Room rows k limit
response_room rows k R limit r h = record {
  time = R;
  room = record { from_one = r.at_least_one; enough = omega (arith, r.solves) };
  within = h;
}

pub meets_room : (rows : List Row) (k : ℕ) → Meets rows k → Room rows k (row_at rows k).D
meets_room rows k m = response_room rows k m.response (row_at rows k).D m.is_response m.by_deadline

-- the climb's least time with room is the response time
pub least_response : (rows : List Row) (k R : ℕ) → LeastRoom (load rows k) R → IsResponse rows k R
least_response rows k R l = record {
  at_least_one = l.room.from_one;
  solves = l.repeats;
  least = λ S one e. l.least S (record { from_one = one; enough = omega arith });
}

-- what a climb to the deadline comes to is the row's outcome
pub climbed_outcome : (rows : List Row) (k : ℕ) (o : Outcome) → Climbed (load rows k) (row_at rows k).D o → IsOutcome rows k o
climbed_outcome rows k (responds R) c = (least_response rows k R c.0, c.1)
climbed_outcome rows k misses c = λ m.
    let r : Room rows k (row_at rows k).D = meets_room rows k m in
    omega (arith, c r.time r.room, r.within)

module _ (rows : List Row) (k : ℕ) (runs : 1 ≤ (row_at rows k).C) where
  -- every climb may start from 1
  pub start_at_one : Start (load rows k) 1
  unfolding load
  start_at_one = record {
    from_one = le_refl 1;
    rises = omega (arith, runs);
    below_room = λ S room. room.from_one;
  }

  -- the climb from 1, with as many rounds as the limit
  pub climb_from_one : (limit : ℕ) → Climbed (load rows k) limit (climb (load rows k) limit limit 1)
  climb_from_one limit = climb_right (load rows k) (λ s t h. load_mono rows k h) limit limit 1 start_at_one (omega arith)

  -- the outcome of the response time question
  pub outcome_right : IsOutcome rows k (outcome rows k)
  unfolding outcome
  outcome_right = climbed_outcome rows k (climb (load rows k) (row_at rows k).D (row_at rows k).D 1) (climb_from_one (row_at rows k).D)

  -- with room by the deadline the row meets
  pub room_meets : Room rows k (row_at rows k).D → Meets rows k
  room_meets r = go (climb (load rows k) (row_at rows k).D (row_at rows k).D 1) (climb_from_one (row_at rows k).D)
    where
      go : (o : Outcome) → Climbed (load rows k) (row_at rows k).D o → Meets rows k
      go (responds R) c = record { response = R; is_response = least_response rows k R c.0; by_deadline = c.1 }
      go misses c = absurd (let late : (row_at rows k).D < r.time = c r.time r.room in omega (arith, r.within))

-- a row that is loaded no more than in another set, and has the same deadline, meets where it meets there
pub meets_with_no_more_load : (rows other : List Row) (k : ℕ) → 1 ≤ (row_at rows k).C → (row_at other k).D ≡ (row_at rows k).D
    → ((t : ℕ) → 1 ≤ t → load rows k t ≤ load other k t)
    → Meets other k
    → Meets rows k
meets_with_no_more_load rows other k runs same_deadline less m =
    let r : Room other k (row_at other k).D = meets_room other k m in
    room_meets rows k runs
    (record {
      time = r.time;
      room = record { from_one = r.room.from_one; enough = le_trans (less r.time r.room.from_one) r.room.enough };
      within = omega (arith, r.within, same_deadline);
    })
