-- Where a row's climb may start when the rows stand by rank: its own time after the response time of the row before it.
use mathlib.Core.Path.{◌≡◌}
use Prim.Native.Nat.{ℕ, zero, suc, ◌+◌, ◌-◌, ◌*◌, ◌≤◌, ◌<◌}
use mathlib.Core.List.{List, [], ◌∷◌, ◌++◌}
use native.Mathlib.Omega.{arith}
use native.Mathlib.Nat.{mul-le-mul_right}
use lib.ListN.{length, get_or, take, length-take}
use lib.Seq.{take-suc, get_or-take}
use Rattle.theory.specs.Response.{ceil}
use Rattle.theory.specs.Climb.{RoomAt, LeastRoom, Start}
use Rattle.theory.proofs.Ceil.{ceil_positive}
use Rattle.demands.specs.Levels.{demand_of, load_of, Small}
use Rattle.climbs.proofs.Load.{load_of_mono}

-- what rows ask for with one more behind them
demand_of_one_more : (cs ts : List ℕ) (c T x : ℕ) → length ts ≡ length cs → demand_of (cs ++ (c ∷ [])) (ts ++ (T ∷ [])) x ≡ demand_of cs ts x + ceil x T * c
unfolding demand_of
demand_of_one_more [] [] c T x same = omega arith
demand_of_one_more [] (t ∷ ts) c T x same = absurd (omega arith)
demand_of_one_more (a ∷ cs) [] c T x same = absurd (omega arith)
demand_of_one_more (a ∷ cs) (t ∷ ts) c T x same = omega (arith, demand_of_one_more cs ts c T x (omega arith))

module _ (cs ts : List ℕ) (same : length ts ≡ length cs) where
  -- the load of the row at a place, over the rows before it
  abbrev pub load_at : ℕ → ℕ → ℕ
  load_at j = load_of (get_or cs j 0) (take j cs) (take j ts)

  -- a row behind another is loaded by its own time and the other's load
  load_over_before : (j own x : ℕ) → j < length cs → 1 ≤ get_or ts j 0 → 1 ≤ x → own + load_at j x ≤ load_of own (take (suc j) cs) (take (suc j) ts) x
  load_over_before j own x inside positive from_one =
      let asked : demand_of (take (suc j) cs) (take (suc j) ts) x ≡ demand_of (take j cs) (take j ts) x + ceil x (get_or ts j 0) * get_or cs j 0 =
      rw (take-suc cs j 0 inside, take-suc ts j 0 (omega arith)) (demand_of_one_more (take j cs) (take j ts) (get_or cs j 0) (get_or ts j 0) x (omega (arith, length-take j cs, length-take j ts))) in
      omega (arith, asked, mul-le-mul_right (get_or cs j 0) (ceil_positive x {m = get_or ts j 0} positive from_one))

  -- r is the response time of the row before place j; 0 before the first
  abbrev pub RespondsBefore : ℕ → ℕ → Type 0
  RespondsBefore zero r = r ≡ 0
  RespondsBefore (suc j) r = LeastRoom (load_at j) r

  -- the climb of the row at place j may start its own time after it
  pub start_after : (j own r : ℕ) → j ≤ length cs → Small (take j cs) (take j ts) → ((i : ℕ) → i < j → 1 ≤ get_or cs i 0) → 1 ≤ own → RespondsBefore j r → Start (load_of own (take j cs) (take j ts)) (r + own)
  unfolding demand_of
  start_after zero own r inside small each-runs runs none = record { from_one = omega arith; rises = omega arith; below_room = λ S room. omega (arith, room.enough) }
  start_after (suc j) own r inside small each-runs runs before = record {
    from_one = omega arith;
    rises = omega (arith, over (r + own) (omega arith), load_of_mono (get_or cs j 0) (take j cs) (take j ts) r (r + own) (omega arith), before.repeats);
    below_room = below;
  }
    where
      positive : 1 ≤ get_or ts j 0
      positive = omega (arith, small.period_positive j (omega (arith, length-take (suc j) cs)), get_or-take (suc j) ts j 0 (omega arith))

      over : (x : ℕ) → 1 ≤ x → own + load_at j x ≤ load_of own (take (suc j) cs) (take (suc j) ts) x
      over x = load_over_before j own x inside positive

      -- at a time with room, the row before has room its own time earlier
      below : (S : ℕ) → RoomAt (load_of own (take (suc j) cs) (take (suc j) ts)) S → r + own ≤ S
      below S room =
          let earlier = S - own in
          let loaded : own + load_at j S ≤ S = omega (arith, over S room.from_one, room.enough) in
          let less = load_of_mono (get_or cs j 0) (take j cs) (take j ts) earlier S (omega arith) in
          omega (arith, loaded, before.least earlier (record { from_one = omega (arith, loaded, each-runs j (omega arith)); enough = omega (arith, loaded, less) }))
