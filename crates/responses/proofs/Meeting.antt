-- Rows that respond in time meet.
use Prim.Native.Nat.{ℕ, ◌<◌}
use mathlib.Core.List.{List}
use lib.ListN.{length, get_or}
use Rattle.theory.specs.Row.{Row}
use Rattle.theory.specs.Response.{Meets, AllMeet}
use Rattle.theory.specs.Lists.{rows_of, Shaped}
use Rattle.rows.specs.Values.{rows_in}
use Rattle.climbs.proofs.InLists.{in_lists}
use Rattle.responses.specs.declared.timed.Timed.{Timed}
use Rattle.responses.specs.InTime.{RespondsInTime}

pub in_time_meets : {rows : List Row} {responses : List ℕ} {k : ℕ} → RespondsInTime rows responses k → Meets rows k
in_time_meets {responses = responses} {k = k} r = record { response = get_or responses k 0; is_response = r.is_response; by_deadline = r.by_deadline }

pub all_in_time_meet : (cs ds ts responses : List ℕ) → Shaped cs ds ts → ((k : ℕ) → k < length cs → RespondsInTime (rows_of cs ds ts) responses k) → AllMeet (rows_of cs ds ts)
all_in_time_meet cs ds ts responses shaped in_time_lem k h = in_time_meets (in_time_lem k (in_lists cs ds ts shaped h))

-- so do all rows of a set that is on time
pub timed_meet : (timed : Timed) → AllMeet (rows_in timed.set.now.rows)
timed_meet timed = let rows = timed.set.now.rows in all_in_time_meet rows.c.now rows.d.now rows.t.now timed.response rows.shaped timed.in_time
