-- The laws of a leap, over any part of the rows above that is taken as linear: no time with room is below what it leaves in question, and where the linear
-- rows alone fill the core no time has room. How a leap takes row after row, and that it keeps the climb's start.
use mathlib.Core.Path.{◌≡◌, refl, ap}
use Prim.Native.Nat.{ℕ, zero, suc, ◌+◌, ◌-◌, ◌*◌, ◌/◌, ◌≤◌, ◌<◌}
use mathlib.Core.Bool.{Bool, true, false}
use mathlib.Core.List.{List, [], ◌∷◌, ◌++◌}
use native.Mathlib.Omega.{arith}
use native.Mathlib.Nat.{le_refl, mul-add, mul-sub, mul_assoc, mul_comm, mul-le-mul_left, mul-le-mul_right, div-mul-le_self}
use lib.ListN.{length, get_or, length-append}
use Rattle.theory.specs.Response.{ceil}
use Rattle.theory.specs.Climb.{RoomAt, Start}
use Rattle.theory.proofs.Ceil.{le_ceil, ceil_mono}
use Rattle.demands.specs.Levels.{demand_of, load_of}
use Rattle.demands.specs.declared.ranked.RankedRow.{RankedRow}
use Rattle.demands.specs.declared.ranked.Raise.{Raise}
use Rattle.leaps.specs.Leap.{share, asked_beside, filled_by, Leaned, by_jobs, as_linear}
use Rattle.climbs.proofs.Load.{demand_of_mono}
use Rattle.demands.specs.Loads.{raised_load, raised_load_in}
use Rattle.raises.proofs.Raised.{raised_mono}
use Rattle.leaps.proofs.Starts.{starts}

-- up to a time a row asks for its share of the time at least
share_asked : (S C T : ℕ) → 1 ≤ T → S * share C T ≤ ceil S T * C * 4_294_967_296
unfolding share
share_asked S C T positive =
    let part = (C * 4_294_967_296) / T in
    let jobs = ceil S T in
    let whole : jobs * (part * T) ≤ jobs * (C * 4_294_967_296) = mul-le-mul_left jobs (div-mul-le_self (C * 4_294_967_296) T) in
    omega (arith, mul-le-mul_right part (le_ceil S positive), mul_assoc jobs T part, ap (λ (n : ℕ). jobs * n) (mul_comm T part), whole, mul_assoc jobs C 4_294_967_296)

-- so the rows ask for what those that are not linear ask for up to an earlier time, and the shares of those that are
part_asked : (part : List Bool) (cs ts : List ℕ) (at S : ℕ) → at ≤ S → ((j : ℕ) → j < length cs → 1 ≤ get_or ts j 0)
    → asked_beside part cs ts at * 4_294_967_296 + S * filled_by part cs ts ≤ demand_of cs ts S * 4_294_967_296
unfolding asked_beside filled_by demand_of
part_asked [] cs ts at S h positive = omega (arith, demand_of_mono cs ts at S h)
part_asked (linear ∷ part) [] ts at S h positive = omega arith
part_asked (linear ∷ part) (c ∷ cs) [] at S h positive = omega arith
part_asked (true ∷ part) (c ∷ cs) (T ∷ ts) at S h positive =
    omega (arith, share_asked S c T (positive 0 (omega arith)), mul-add S (share c T) (filled_by part cs ts), part_asked part cs ts at S h (λ j l. positive (suc j) (omega arith)))
part_asked (false ∷ part) (c ∷ cs) (T ∷ ts) at S h positive =
    omega (arith, mul-le-mul_right c (ceil_mono T h), part_asked part cs ts at S h (λ j l. positive (suc j) (omega arith)))

-- what a leap leaves in question: with room at S, what is asked beside the linear rows is within what they leave of S; where they leave nothing there is none
pub leap_below_room : (part : List Bool) (own : ℕ) (cs ts : List ℕ) (at S : ℕ) → at ≤ S → ((j : ℕ) → j < length cs → 1 ≤ get_or ts j 0) → own + demand_of cs ts S ≤ S
    → (own + asked_beside part cs ts at) * 4_294_967_296 ≤ S * (4_294_967_296 - filled_by part cs ts)
leap_below_room part own cs ts at S h positive room =
    omega (arith, part_asked part cs ts at S h positive, mul-sub S 4_294_967_296 (filled_by part cs ts))

-- where the linear rows alone fill the core, no time has room
pub full_no_room : (part : List Bool) (own : ℕ) (cs ts : List ℕ) (S : ℕ) → 1 ≤ own → 1 ≤ S → ((j : ℕ) → j < length cs → 1 ≤ get_or ts j 0) → 4_294_967_296 ≤ filled_by part cs ts
    → own + demand_of cs ts S ≤ S
    → ⊥
full_no_room part own cs ts S runs from_one positive full room =
    omega (arith, part_asked part cs ts 1 S from_one positive, mul-le-mul_left S full)

-- a leap after the first j rows: those of a part were taken as linear
pub record Leaping (own : ℕ) (cs ts : List ℕ) (at j rest free : ℕ) : Type 0 where
  pub part : List Bool
  pub taken : length part ≡ j
  pub is_rest : rest ≡ own + asked_beside part cs ts at
  pub is_free : free ≡ 4_294_967_296 - filled_by part cs ts

-- before the first
leaping_begins : (own : ℕ) (cs ts : List ℕ) (at : ℕ) → Leaping own cs ts at 0 (load_of own cs ts at) 4_294_967_296
unfolding asked_beside filled_by
leaping_begins own cs ts at = record { part = []; taken = refl; is_rest = refl; is_free = refl }

-- the next row by its jobs
one_by_jobs : (part : List Bool) (cs ts : List ℕ) (at : ℕ) → length part < length cs → length ts ≡ length cs
    → (asked_beside (part ++ (false ∷ [])) cs ts at ≡ asked_beside part cs ts at) × (filled_by (part ++ (false ∷ [])) cs ts ≡ filled_by part cs ts)
unfolding asked_beside filled_by demand_of
one_by_jobs part [] ts at h same = absurd (omega arith)
one_by_jobs part (c ∷ cs) [] at h same = absurd (omega arith)
one_by_jobs [] (c ∷ cs) (T ∷ ts) at h same = (refl, refl)
one_by_jobs (true ∷ part) (c ∷ cs) (T ∷ ts) at h same = let more = one_by_jobs part cs ts at (omega arith) (omega arith) in (more.0, omega (arith, more.1))
one_by_jobs (false ∷ part) (c ∷ cs) (T ∷ ts) at h same = let more = one_by_jobs part cs ts at (omega arith) (omega arith) in (omega (arith, more.0), more.1)

-- the next row as linear
one_as_linear : (part : List Bool) (cs ts : List ℕ) (at : ℕ) → length part < length cs → length ts ≡ length cs
    → (asked_beside (part ++ (true ∷ [])) cs ts at + ceil at (get_or ts (length part) 0) * get_or cs (length part) 0 ≡ asked_beside part cs ts at)
    × (filled_by (part ++ (true ∷ [])) cs ts ≡ filled_by part cs ts + share (get_or cs (length part) 0) (get_or ts (length part) 0))
unfolding asked_beside filled_by demand_of
one_as_linear part [] ts at h same = absurd (omega arith)
one_as_linear part (c ∷ cs) [] at h same = absurd (omega arith)
one_as_linear [] (c ∷ cs) (T ∷ ts) at h same = (omega arith, omega arith)
one_as_linear (true ∷ part) (c ∷ cs) (T ∷ ts) at h same = let more = one_as_linear part cs ts at (omega arith) (omega arith) in (more.0, omega (arith, more.1))
one_as_linear (false ∷ part) (c ∷ cs) (T ∷ ts) at h same = let more = one_as_linear part cs ts at (omega arith) (omega arith) in (omega (arith, more.0), more.1)

module _ {own : ℕ} {cs ts : List ℕ} {at j rest free : ℕ} (so_far : Leaping own cs ts at j rest free) (same : length ts ≡ length cs) (positive : (i : ℕ) → i < length cs → 1 ≤ get_or ts i 0) where
  -- what is left is no more than the load
  pub rest_up_to : rest ≤ load_of own cs ts at
  rest_up_to = omega (arith, so_far.is_rest, part_asked so_far.part cs ts at at (le_refl at) positive)

  module _ (inside : j < length cs) where
    -- the part ends before the next row
    ends_here : length so_far.part < length cs
    ends_here = omega (arith, so_far.taken)

    linear_here : (asked_beside (so_far.part ++ (true ∷ [])) cs ts at + ceil at (get_or ts j 0) * get_or cs j 0 ≡ asked_beside so_far.part cs ts at)
        × (filled_by (so_far.part ++ (true ∷ [])) cs ts ≡ filled_by so_far.part cs ts + share (get_or cs j 0) (get_or ts j 0))
    linear_here = rw so_far.taken at (one_as_linear so_far.part cs ts at ends_here same)

    -- the next row's jobs are among what is left, beside the row's own time
    pub next_is_left : own + ceil at (get_or ts j 0) * get_or cs j 0 ≤ rest
    next_is_left = omega (arith, linear_here.0, so_far.is_rest)

    -- the next row
    pub leaping_more : {rest' free' : ℕ} → Leaned at (get_or cs j 0) (get_or ts j 0) rest free rest' free' → Leaping own cs ts at (suc j) rest' free'
    leaping_more (by_jobs same_rest same-free) =
        let more = one_by_jobs so_far.part cs ts at ends_here same in
        record {
          part = so_far.part ++ (false ∷ []);
          taken = omega (arith, length-append so_far.part (false ∷ []), so_far.taken);
          is_rest = omega (arith, same_rest, so_far.is_rest, more.0);
          is_free = omega (arith, same-free, so_far.is_free, more.1);
        }
    leaping_more (as_linear less-rest less-free) = record {
      part = so_far.part ++ (true ∷ []);
      taken = omega (arith, length-append so_far.part (true ∷ []), so_far.taken);
      is_rest = omega (arith, less-rest, so_far.is_rest, linear_here.0);
      is_free = omega (arith, less-free, so_far.is_free, linear_here.1);
    }

-- the load with a raise is the load with a row more
pub raise_as_row : (own : ℕ) (cs ts : List ℕ) (period more t : ℕ) → load_of own (more ∷ cs) (period ∷ ts) t ≡ raised_load own cs ts period more t
unfolding demand_of
raise_as_row own cs ts period more t = omega (arith, mul_comm more (ceil t period))

module _ (row : RankedRow) (raise : Raise) where
  -- a leap of a row with a raise, which stands before the rows above as one more
  abbrev pub LeapingIn : ℕ → ℕ → ℕ → ℕ → Type 0
  LeapingIn = Leaping row.own (raise.more ∷ row.c.now) (raise.period ∷ row.t.now)

  -- all periods are positive
  pub periods_positive : (i : ℕ) → i < length (raise.more ∷ row.c.now) → 1 ≤ get_or (raise.period ∷ row.t.now) i 0
  periods_positive zero inside = raise.in_range.1
  periods_positive (suc i) inside = row.small.period_positive i (omega arith)

  -- it begins with the load
  pub leap_begins : {at load : ℕ} → load ≡ raised_load_in row raise at → LeapingIn at 0 load 4_294_967_296
  leap_begins {at} is_load = rw (is_load, ← raise_as_row row.own row.c.now row.t.now raise.period raise.more at) (leaping_begins row.own (raise.more ∷ row.c.now) (raise.period ∷ row.t.now) at)

  module _ {at j rest free : ℕ} (so_far : LeapingIn at j rest free) {c t : ℕ} (inside : j < length (raise.more ∷ row.c.now)) (is_c : c ≡ get_or (raise.more ∷ row.c.now) j 0) (is_t : t ≡ get_or (raise.period ∷ row.t.now) j 0) where
    -- the jobs of the next row leave some of what is asked
    pub some_is_left : 1 ≤ row.own → ceil at t * c < rest
    some_is_left runs = rw (is_c, is_t) (omega (arith, next_is_left so_far (ap suc row.small.as_many) periods_positive inside))

    -- the next row
    pub leap_more : {rest' free' : ℕ} → Leaned at c t rest free rest' free' → LeapingIn at (suc j) rest' free'
    leap_more leaned = leaping_more so_far (ap suc row.small.as_many) periods_positive inside (rw (is_c, is_t) at leaned)

-- a value that is not before the start, and below every time in question from there on, is a start
pub leap_keeps_start : (own : ℕ) (cs ts : List ℕ) (period more : ℕ) {at j rest free r : ℕ} → 1 ≤ own → Start (raised_load own cs ts period more) at
    → Leaping own (more ∷ cs) (period ∷ ts) at j rest free
    → ((i : ℕ) → i < length (more ∷ cs) → 1 ≤ get_or (period ∷ ts) i 0)
    → at ≤ r
    → ((S : ℕ) → at ≤ S → rest * 4_294_967_296 ≤ S * free → r ≤ S)
    → Start (raised_load own cs ts period more) r
leap_keeps_start own cs ts period more {at} {j} {rest} {free} {r} runs start leap positive later in_question =
    starts (raised_load own cs ts period more) (raised_mono own cs ts period more) (omega arith) r (omega (arith, start.from_one)) (λ S room. below S room)
  where
    below : (S : ℕ) → RoomAt (raised_load own cs ts period more) S → r ≤ S
    below S room =
        let after : at ≤ S = start.below_room S room in
        in_question S after
        (rw (leap.is_rest, leap.is_free)
        (leap_below_room leap.part own (more ∷ cs) (period ∷ ts) at S after positive (omega (arith, raise_as_row own cs ts period more S, room.enough))))
