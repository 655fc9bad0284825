-- The search for the allowance of the row at place p over the rows by rank, from the lowest up: what holds after the rows from place j on, how it begins and
-- goes on.
use mathlib.Core.Path.{◌≡◌, refl, sym, ap, ◌∙◌, subst}
use Prim.Native.Nat.{ℕ, ◌+◌, ◌-◌, ◌*◌, ◌≤◌, ◌<◌}
use mathlib.Core.Logic.{◌⊎◌, inl, inr}
use mathlib.Core.List.{List}
use native.Mathlib.Omega.{arith}
use native.Mathlib.Nat.{mul-one}
use borrow.Author.Tests.{eq-eqb, ne_eqb}
use lib.ListN.{length, get_or, take}
use lib.Seq.{length-take-le, get_or-take}
use Rattle.theory.specs.Response.{ceil}
use Rattle.theory.specs.Climb.{LeastRoom}
use Rattle.theory.proofs.Ceil.{ceil_one}
use Rattle.theory.proofs.Tests.{equal_or_not}
use Rattle.demands.specs.Levels.{load_of, Small}
use Rattle.climbs.proofs.Load.{load_of_mono}
use Rattle.demands.specs.Loads.{raised_load}
use Rattle.raises.specs.Raise.{RoomBy, LargestRaise}
use Rattle.raises.proofs.Raised.{room_with_less}
use Rattle.trials.specs.Trial.{InTimeByRank, counted_by, RoomWith, RoomFrom}

-- the row at place p counts itself once
pub counts_itself_once : (ts : List ℕ) (p : ℕ) → counted_by ts p p ≡ 1_000_000
unfolding counted_by
counts_itself_once ts p = rw (eq-eqb p p refl, counted_by)

-- another counts it by its period
pub counts_by_period : (ts : List ℕ) (p j : ℕ) → (j ≡ p → ⊥) → counted_by ts p j ≡ get_or ts p 0
unfolding counted_by
counts_by_period ts p j other = rw (ne_eqb j p other, counted_by)

-- no sum over the rows before a place is large
pub small_before : {cs ts : List ℕ} → Small cs ts → (j : ℕ) → j ≤ length cs → Small (take j cs) (take j ts)
small_before {cs} {ts} small j h = record {
  as_many = length-take-le j ts (omega (arith, small.as_many)) ∙ sym before;
  few = omega (arith, small.few, before);
  period_positive = λ i l. omega (arith, small.period_positive i (omega (arith, before)), get_or-take j ts i 0 (omega (arith, before)));
  by_period = λ i l. omega (arith, small.by_period i (omega (arith, before)), get_or-take j ts i 0 (omega (arith, before)), get_or-take j cs i 0 (omega (arith, before)));
  by_million = λ i l. omega (arith, small.by_million i (omega (arith, before)), get_or-take j ts i 0 (omega (arith, before)));
}
  where
    before : length (take j cs) ≡ j
    before = length-take-le j cs h

-- a row that counts the raise once responds no earlier than the raise after its response time
raise_after : (own : ℕ) (cs ts : List ℕ) (R b limit : ℕ) → LeastRoom (load_of own cs ts) R → limit ≤ 1_000_000 → RoomBy (raised_load own cs ts 1_000_000 b) limit → R + b ≤ limit
raise_after own cs ts R b limit response small by =
    let once : b * ceil by.time 1_000_000 ≡ b = ap (λ (n : ℕ). b * n) (ceil_one by.time by.room.from_one (omega (arith, by.by_limit))) ∙ mul-one b in
    let loaded : load_of own cs ts by.time + b ≤ by.time = omega (arith, once, by.room.enough) in
    let behind : R ≤ by.time = response.least by.time (record { from_one = by.room.from_one; enough = omega arith }) in
    omega (arith, loaded, load_of_mono own cs ts R by.time behind, response.repeats, by.by_limit)

-- after the rows from place j on
pub record Searching (cs ds ts : List ℕ) (p allowed j : ℕ) : Type 0 where
  pub places : j ≤ length cs
  pub up_to : allowed ≤ get_or ds p 0
  pub room : RoomFrom cs ds ts p allowed j
  pub no_larger : (b : ℕ) → RoomFrom cs ds ts p b p → b ≤ allowed

module _ {cs ds ts responses : List ℕ} (rows : InTimeByRank cs ds ts responses) (p : ℕ) (inside : p < length cs) where
  -- the period for which a row counts it is no less than its deadline, and no more than a million
  pub counted_limits : (j : ℕ) → (get_or ds p 0 ≤ counted_by ts p j) × (1 ≤ counted_by ts p j) × (counted_by ts p j ≤ 1_000_000)
  counted_limits j = go (equal_or_not j p)
    where
      go : (j ≡ p) ⊎ (j ≡ p → ⊥) → (get_or ds p 0 ≤ counted_by ts p j) × (1 ≤ counted_by ts p j) × (counted_by ts p j ≤ 1_000_000)
      go (inl e) = rw (e, counts_itself_once ts p) (omega (arith, rows.by_period p inside, rows.small.by_million p inside), omega arith, omega arith)
      go (inr d) = rw (counts_by_period ts p j d) (rows.by_period p inside, rows.small.period_positive p inside, rows.small.by_million p inside)

  -- it begins with the row's distance to its deadline
  pub searching_begins : Searching cs ds ts p (get_or ds p 0 - get_or responses p 0) (length cs)
  searching_begins = record {
    places = omega arith;
    up_to = omega arith;
    room = λ q past h. absurd (omega arith);
    no_larger = λ b all. omega (arith, bound b (all p (omega arith) inside));
  }
    where
      bound : (b : ℕ) → RoomWith cs ds ts p b p → get_or responses p 0 + b ≤ get_or ds p 0
      bound b own =
          raise_after (get_or cs p 0) (take p cs) (take p ts) (get_or responses p 0) b (get_or ds p 0) (rows.responds p inside) (omega (arith, rows.by_period p inside, rows.small.by_million p inside))
          (rw (counts_itself_once ts p) at own)

module _ {cs ds ts : List ℕ} {p allowed j : ℕ} (so_far : Searching cs ds ts p allowed j) where
  -- the row before it lowers the allowance to the largest raise with which it has room
  pub searching_lowers : (a : ℕ) → p < j
      → LargestRaise (raised_load (get_or cs (j - 1) 0) (take (j - 1) cs) (take (j - 1) ts) (counted_by ts p (j - 1))) (get_or ds (j - 1) 0) allowed a
      → Searching cs ds ts p a (j - 1)
  searching_lowers a more l = record {
    places = omega (arith, so_far.places);
    up_to = omega (arith, so_far.up_to, l.up_to);
    room = λ q past h. go q h (equal_or_not q (j - 1)) past;
    no_larger = λ b all. l.largest b (so_far.no_larger b all) (all (j - 1) (omega arith) (omega (arith, so_far.places)));
  }
    where
      go : (q : ℕ) → q < length cs → (q ≡ j - 1) ⊎ (q ≡ j - 1 → ⊥) → j - 1 ≤ q → RoomWith cs ds ts p a q
      go q h (inl e) past = subst (RoomWith cs ds ts p a) (sym e) l.meets
      go q h (inr d) past = room_with_less (get_or cs q 0) (take q cs) (take q ts) (counted_by ts p q) a allowed (get_or ds q 0) l.up_to (so_far.room q (omega arith) h)
