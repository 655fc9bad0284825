-- The raises above which none is in question: a row's own distance to its deadline, and its allowance.
use Rattle.std.proofs.Common.{Result, Ok, Err}
use Rattle.std.specs.Result.{result_unwrap_or}
use mathlib.Core.Path.{◌≡◌, ap, ◌∙◌}
use Prim.Native.Nat.{ℕ, suc, ◌+◌, ◌-◌, ◌*◌, ◌≤◌, ◌<◌}
use mathlib.Core.List.{List}
use native.Mathlib.Omega.{arith}
use native.Mathlib.Nat.{mul-one}
use lib.ListN.{length, get_or, take}
use Rattle.theory.specs.Response.{ceil}
use Rattle.theory.specs.Lists.{rows_of}
use Rattle.theory.proofs.Ceil.{ceil_one}
use Rattle.theory.proofs.Walk.{walk_within, walk_positive}
use Rattle.raises.specs.declared.LeftOff.{LeftOff}
use Rattle.trials.specs.Trial.{counted_by, RoomWith, AllowanceAt, IsAllowanceAt}
use Rattle.trials.proofs.Search.{counts_itself_once}
use Rattle.reasons.specs.Reason.{PointWith, PointsByRank, IsMost}

module _ {cs ds ts : List ℕ} (rows : PointsByRank cs ds ts) (p : ℕ) (inside : p < length cs) where
  -- a point with room is a time with room
  room_of_point : (q a : ℕ) → q < length cs → PointWith cs ds ts p q a → RoomWith cs ds ts p a q
  room_of_point q a h x = record {
    time = x.point;
    room = record {
      from_one = walk_positive (rows_of (take q ts) (take q ts) (take q ts)) (length (take q ts)) (get_or ds q 0) x.point (omega (arith, rows.runs q h, rows.by_deadline q h)) x.among_points;
      enough = x.room;
    };
    by_limit = walk_within (rows_of (take q ts) (take q ts) (take q ts)) (length (take q ts)) (get_or ds q 0) x.point x.among_points;
  }

  -- the row itself has no room for more than its distance to its deadline
  own_room : (a : ℕ) → RoomWith cs ds ts p a p → get_or cs p 0 + a ≤ get_or ds p 0
  own_room a r =
      let once : a * ceil r.time (counted_by ts p p) ≡ a =
      ap (λ (m : ℕ). a * ceil r.time m) (counts_itself_once ts p)
      ∙ ap (λ (n : ℕ). a * n) (ceil_one r.time r.room.from_one (omega (arith, r.by_limit, rows.by_period p inside, rows.small.by_million p inside)))
      ∙ mul-one a in
      omega (arith, r.room.enough, once, r.by_limit)

  -- its own distance to its deadline
  pub distance_is_most : IsMost cs ds ts p (get_or ds p 0 - get_or cs p 0)
  distance_is_most = record {
    own_distance = omega (arith, rows.by_deadline p inside);
    no_larger = λ all. omega (arith, own_room (suc (get_or ds p 0 - get_or cs p 0)) (room_of_point p (suc (get_or ds p 0 - get_or cs p 0)) inside (all p (omega arith) inside)), rows.by_deadline p inside);
  }

  -- its allowance
  pub allowance_is_most : (a : ℕ) → AllowanceAt cs ds ts p a → IsMost cs ds ts p a
  allowance_is_most a allowed = record {
    own_distance = own_room a (allowed.all_have_room p (omega arith) inside);
    no_larger = λ all. let larger : suc a ≤ a = allowed.largest (suc a) (λ q from h. room_of_point q (suc a) h (all q from h)) in omega arith;
  }

  -- the allowance where the search finds it, and the distance where it does not
  pub found_is_most : (rounds : ℕ) (found : Result ℕ LeftOff) → IsAllowanceAt cs ds ts p rounds found → IsMost cs ds ts p (result_unwrap_or found (get_or ds p 0 - get_or cs p 0))
  found_is_most rounds (Ok a) is = allowance_is_most a is
  found_is_most rounds (Err left_off) is = distance_is_most
