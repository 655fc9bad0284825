-- The walk, once over the level: what it yields lies between 1 and its start, and it yields a time with room wherever there is one.
use mathlib.Core.Path.{◌≡◌, refl, sym, ◌∙◌, ap, fun_ext, subst}
use Prim.Native.Nat.{ℕ, zero, suc, ◌+◌, ◌-◌, ◌*◌, ◌/◌, ◌≤◌, ◌<◌}
use mathlib.Core.Bool.{Bool, true, false}
use mathlib.Core.Logic.{◌⊎◌, inl, inr, ⊎_elim}
use mathlib.Core.List.Memᴰ
use mathlib.Core.List.{List, ◌++◌, Memᴰ}
use native.Mathlib.Omega.{arith}
use native.Mathlib.Nat.{le_refl, le_trans, mul-le-mul_left, mul-le-mul_right, mul-add, add-mul}
use borrow.Author.Tests.{ltb-true, ltb-false, eqb-true}
use lib.Dec.{ltb, eqb}
use Rattle.theory.specs.Row.{Row, row_at}
use Rattle.theory.specs.Response.{ceil}
use Rattle.theory.specs.Points.{last_multiple, walk}
use Rattle.theory.proofs.Ceil.{le_ceil, ceil_mono, multiple_below, ceil_behind, ceil_upto}
use Rattle.theory.proofs.Demand.{level_demand, level_demand_repeated}

-- the three ways of a level, over what the level below yields, by their tests
ways : (ℕ → List ℕ) → ℕ → ℕ → Bool → Bool → List ℕ
ways below s t at_multiple behind-multiple =
    elim at_multiple [ true ↦ below t | false ↦ elim behind-multiple [ true ↦ below s ++ below t | false ↦ below t ] ]

-- the next level of the walk, by its period
abbrev next_level : (ℕ → List ℕ) → ℕ → ℕ → List ℕ
next_level below period t = ways below (last_multiple period t) t (eqb (last_multiple period t) t) (ltb 0 (last_multiple period t))

-- level j + 1 of the walk is the next level over level j
walk_level : (hs : List Row) (j t : ℕ) → walk hs (suc j) t ≡ next_level (walk hs j) (row_at hs j).T t
unfolding walk ways
walk_level hs j t = refl

-- the walk goes by periods alone
pub walk_by_periods : (gs hs : List Row) → ((j : ℕ) → (row_at gs j).T ≡ (row_at hs j).T) → (j t : ℕ) → walk gs j t ≡ walk hs j t
unfolding walk
walk_by_periods gs hs same zero t = refl
walk_by_periods gs hs same (suc j) t =
    walk_level gs j t
    ∙ ap (λ (below : ℕ → List ℕ). next_level below (row_at gs j).T t) (fun_ext (walk_by_periods gs hs same j))
    ∙ ap (λ (period : ℕ). next_level (walk hs j) period t) (same j)
    ∙ sym (walk_level hs j t)

module _ (hs : List Row) where
  -- the multiple that level j + 1 goes by
  abbrev pub stop : ℕ → ℕ → ℕ
  stop j t = last_multiple (row_at hs j).T t

  -- a level yields what the level below yields from the same time
  pub walk_from_same : (j t p : ℕ) → Memᴰ p (walk hs j t) → Memᴰ p (walk hs (suc j) t)
  unfolding ways
  walk_from_same j t p m = rw (walk_level hs j t) (go (eqb (stop j t) t) (ltb 0 (stop j t)))
    where
      go : (a b : Bool) → Memᴰ p (ways (walk hs j) (stop j t) t a b)
      go true b = m
      go false true = Memᴰ.append_right (walk hs j (stop j t)) m
      go false false = m

  -- and from the multiple, where that is not 0
  pub walk_from_stop : (j t p : ℕ) → 0 < stop j t → Memᴰ p (walk hs j (stop j t)) → Memᴰ p (walk hs (suc j) t)
  unfolding ways
  walk_from_stop j t p h m = rw (walk_level hs j t) (go (eqb (stop j t) t) (ltb 0 (stop j t)) refl refl)
    where
      go : (a b : Bool) → eqb (stop j t) t ≡ a → ltb 0 (stop j t) ≡ b → Memᴰ p (ways (walk hs j) (stop j t) t a b)
      go true b e f = subst (λ (s : ℕ). Memᴰ p (walk hs j s)) (eqb-true (stop j t) t e) m
      go false true e f = Memᴰ.append_left (walk hs j t) m
      go false false e f = absurd (let z : stop j t ≤ 0 = ltb-false 0 (stop j t) f in omega arith)

  -- a level yields nothing else
  pub walk_cases : (j t p : ℕ) → Memᴰ p (walk hs (suc j) t) → Memᴰ p (walk hs j t) ⊎ ((0 < stop j t) × Memᴰ p (walk hs j (stop j t)))
  unfolding ways
  walk_cases j t p m = go (eqb (stop j t) t) (ltb 0 (stop j t)) refl (rw (walk_level hs j t) at m)
    where
      go : (a b : Bool) → ltb 0 (stop j t) ≡ b → Memᴰ p (ways (walk hs j) (stop j t) t a b)
          → Memᴰ p (walk hs j t) ⊎ ((0 < stop j t) × Memᴰ p (walk hs j (stop j t)))
      go true b f q = inl q
      go false true f q =
          ⊎_elim (λ q. inr (ltb-true 0 (stop j t) f, q)) (λ q. inl q) (Memᴰ.append_cases (walk hs j (stop j t)) q)
      go false false f q = inl q

  -- what holds of the level below from the time, and of that behind what it yields from the multiple, holds of the level
  pub walk_by_ways : (Q : List ℕ → Type 0) (j t : ℕ) → Q (walk hs j t) → Q (walk hs j (stop j t) ++ walk hs j t) → Q (walk hs (suc j) t)
  unfolding ways
  walk_by_ways Q j t alone both = rw (walk_level hs j t) (go (eqb (stop j t) t) (ltb 0 (stop j t)))
    where
      go : (a b : Bool) → Q (ways (walk hs j) (stop j t) t a b)
      go true b = alone
      go false true = both
      go false false = alone

  -- the start is a point
  pub walk_start : (j t : ℕ) → Memᴰ t (walk hs j t)
  unfolding walk
  walk_start zero t = Memᴰ.head refl
  walk_start (suc j) t = walk_from_same j t t (walk_start j t)

  -- no point is behind the start
  pub walk_within : (j t p : ℕ) → Memᴰ p (walk hs j t) → p ≤ t
  unfolding walk
  walk_within zero t p m = omega (arith, Memᴰ.eq_of_singleton m)
  walk_within (suc j) t p m =
      ⊎_elim (λ q. walk_within j t p q) (λ q. le_trans (walk_within j (stop j t) p q.1) (multiple_below (row_at hs j).T t))
      (walk_cases j t p m)

  -- time 0 is no point
  pub walk_positive : (j t p : ℕ) → 1 ≤ t → Memᴰ p (walk hs j t) → 1 ≤ p
  unfolding walk
  walk_positive zero t p h m = omega (arith, Memᴰ.eq_of_singleton m)
  walk_positive (suc j) t p h m =
      ⊎_elim (λ q. walk_positive j t p h q) (λ q. walk_positive j (stop j t) p q.0 q.1) (walk_cases j t p m)

  -- the row of level j + 1 has room by its period against the levels before it
  pub record LevelRoom (j : ℕ) : Type 0 where
    pub time : ℕ
    pub from_one : 1 ≤ time
    pub by_period : time ≤ (row_at hs j).T
    pub enough : (row_at hs j).C + level_demand hs j time ≤ time

  -- a point of the walk at a level from b at which own time c and the levels' demand fit
  pub record PointAt (j c b : ℕ) : Type 0 where
    pub point : ℕ
    pub yielded : Memᴰ point (walk hs j b)
    pub enough : c + level_demand hs j point ≤ point

  -- a point of the level below, for an own time that has this level's jobs in it, is a point of this level
  lifted : (j c b start n : ℕ) (q : PointAt j (c + n * (row_at hs j).C) start)
      → ceil start (row_at hs j).T ≤ n
      → Memᴰ q.point (walk hs (suc j) b)
      → PointAt (suc j) c b
  unfolding level_demand
  lifted j c b start n q h m =
      let p = q.point in
      let jobs : ceil p (row_at hs j).T ≤ n = le_trans (ceil_mono (row_at hs j).T (walk_within j start p q.yielded)) h in
      record {
        point = p;
        yielded = m;
        enough = omega (arith, q.enough, mul-le-mul_right (row_at hs j).C jobs);
      }

  -- the two cases of the walk theorem, at level j + 1 with the theorem at level j
  module _ (j : ℕ) (rival : LevelRoom j) (c b t : ℕ) (one : 1 ≤ t) (within : t ≤ b) (enough : c + level_demand hs (suc j) t ≤ t)
      (below : (own from u : ℕ) → 1 ≤ u → u ≤ from → own + level_demand hs j u ≤ u → PointAt j own from) where
    period_positive : 0 < (row_at hs j).T
    period_positive = omega (arith, rival.from_one, rival.by_period)

    -- behind the multiple the jobs up to t are the jobs up to b
    behind_stop : stop j b < t → PointAt (suc j) c b
    unfolding level_demand
    behind_stop h =
        let T = (row_at hs j).T in
        let C = (row_at hs j).C in
        let same : ceil t T * C ≡ ceil b T * C = ap (λ (n : ℕ). n * C) (ceil_behind period_positive h within) in
        let q : PointAt j (c + ceil b T * C) b = below (c + ceil b T * C) b t one within (omega (arith, enough, same)) in
        lifted j c b b (ceil b T) q (le_refl (ceil b T)) (walk_from_same j b q.point q.yielded)

    -- up to the multiple, time with room is moved on by as many response times of the rival as jobs are missing
    up_to_stop : t ≤ stop j b → PointAt (suc j) c b
    unfolding level_demand last_multiple
    up_to_stop h =
        let T = (row_at hs j).T in
        let C = (row_at hs j).C in
        let R = rival.time in
        let jobs = ceil t T in
        let missing = b / T - jobs in
        let all : jobs + missing ≡ b / T = omega (arith, ceil_upto period_positive t b h) in
        let u = t + missing * R in
        let by-stop : u ≤ stop j b =
        omega (arith, le_ceil t period_positive, mul-le-mul_left missing rival.by_period, add-mul jobs missing T, ap (λ (n : ℕ). n * T) all) in
        let fits : c + b / T * C + level_demand hs j u ≤ u =
        omega (
          arith,
          enough,
          level_demand_repeated hs j t R missing,
          mul-le-mul_left missing rival.enough,
          mul-add missing C (level_demand hs j R),
          add-mul jobs missing C,
          ap (λ (n : ℕ). n * C) all,
        ) in
        let q : PointAt j (c + b / T * C) (stop j b) = below (c + b / T * C) (stop j b) u (omega (arith, one)) by-stop fits in
        lifted j c b (stop j b) (b / T) q (ceil_upto period_positive (stop j b) b (le_refl (stop j b)))
        (walk_from_stop j b q.point (omega (arith, one, h)) q.yielded)

    one_level : PointAt (suc j) c b
    one_level = go (ltb (stop j b) t) refl
      where
        go : (behind : Bool) → ltb (stop j b) t ≡ behind → PointAt (suc j) c b
        go true e = behind_stop (ltb-true (stop j b) t e)
        go false e = up_to_stop (ltb-false (stop j b) t e)

  module _ (n : ℕ) (rooms : (j : ℕ) → j < n → LevelRoom j) where
    -- THE WALK THEOREM: where some time up to b has room, a point of the walk from b has
    pub walk_finds : (j : ℕ) → j ≤ n → (c b t : ℕ) → 1 ≤ t → t ≤ b → c + level_demand hs j t ≤ t → PointAt j c b
    unfolding level_demand walk
    walk_finds zero h c b t one within enough = record { point = b; yielded = Memᴰ.head refl; enough = omega arith }
    walk_finds (suc j) h c b t one within enough =
        one_level j (rooms j h) c b t one within enough (λ own from u. walk_finds j (omega arith) own from u)
