-- What the code holds of the cores: at the start, what it says of a core's places, and after a row is put on a core.
use mathlib.Core.Path.{◌≡◌, refl, sym, ap, ◌∙◌, subst}
use Prim.Native.Nat.{ℕ, suc, ◌+◌, ◌≤◌, ◌<◌}
use mathlib.Core.Logic.{⊎_elim}
use mathlib.Core.List.{List, []}
use native.Mathlib.Omega.{arith}
use lib.Dec.{ltb}
use lib.ListN.{length, get_or, take, set, replicate, length-take, length-set, get_or-replicate}
use lib.Seq.{get_or-set_same, get_or-set_other}
use Rattle.theory.specs.Gather.{insert, All}
use Rattle.theory.proofs.Tests.{equal_or_not}
use Rattle.theory.proofs.Member.{length_insert}
use Rattle.placement.specs.Core.{core_of, places_on, place_on_core}
use Rattle.placement.proofs.PlacesOn.{places_none, places_at_most, places_in_table, places_on_core, place_on_core_at, places_fewer, places_joined, places_other}
use Rattle.cores.specs.Cores.{held_places, HoldsCores, HeldWithout}

-- at the start no core has a row
pub held_none : (n : ℕ) (rows : List (List ℕ)) (counts : List ℕ) → length rows ≡ 8 → counts ≡ replicate 8 0 → HoldsCores (replicate n 0) rows counts
held_none n rows counts eight none = rw none (record {
  eight_arrays = eight;
  eight_counts = refl;
  how_many = λ m h. get_or-replicate 8 m 0 0 h ∙ sym (ap length (places_none n (suc m) (omega arith)));
  places = λ m h. ap (λ (k : ℕ). take k (get_or rows m [])) (get_or-replicate 8 m 0 0 h) ∙ sym (places_none n (suc m) (omega arith));
})

module _ {assignment : List ℕ} {rows : List (List ℕ)} {counts : List ℕ} (holds : HoldsCores assignment rows counts) (m : ℕ) (on_table : m < 8) where
  -- as many places are held as are counted
  pub held_count : length (held_places rows counts m) ≡ get_or counts m 0
  held_count = ap length (holds.places m on_table) ∙ sym (holds.how_many m on_table)

  -- the core's array has room for them
  pub held_inside : get_or counts m 0 ≤ length (get_or rows m [])
  held_inside = omega (arith, held_count, length-take (get_or counts m 0) (get_or rows m []))

  -- they are no more than the rows
  pub held_at_most : get_or counts m 0 ≤ length assignment
  held_at_most = omega (arith, holds.how_many m on_table, places_at_most assignment (suc m))

  -- each is a place of the table
  pub held_in_table : All (λ h. h < length assignment) (held_places rows counts m)
  held_in_table = rw (holds.places m on_table) (places_in_table assignment (suc m))

  -- each one's row is on the core
  pub held_on_core : All (λ h. core_of assignment h ≡ suc m) (held_places rows counts m)
  held_on_core = rw (holds.places m on_table) (places_on_core assignment (suc m))

  -- the row at place p of them has place p on the core
  pub held_at : (p : ℕ) → p < get_or counts m 0 → place_on_core assignment (get_or (held_places rows counts m) p 0) ≡ p
  held_at p h = rw (holds.places m on_table) (place_on_core_at assignment (suc m) p (omega (arith, holds.how_many m on_table)))

  module _ (i : ℕ) (in_table : i < length assignment) (on_none : core_of assignment i ≡ 0) where
    -- they are fewer than the rows, where row i is on no core
    pub held_fewer : get_or counts m 0 < length assignment
    held_fewer = omega (arith, holds.how_many m on_table, places_fewer assignment i (suc m) in_table (λ e. omega arith))

    -- with row i put on the core, its places are these and place i
    pub held_joined : places_on (set assignment i (suc m)) (suc m) ≡ insert ltb i (held_places rows counts m)
    held_joined = places_joined assignment i (suc m) in_table (λ e. omega arith) ∙ ap (insert ltb i) (sym (holds.places m on_table))

    module _ (array : List ℕ) (stored : take (suc (length (held_places rows counts m))) array ≡ insert ltb i (held_places rows counts m)) where
      abbrev counted : List ℕ
      counted = set counts m (get_or counts m 0 + 1)

      abbrev Holds : ℕ → Type 0
      Holds k =
          (get_or counted k 0 ≡ length (places_on (set assignment i (suc m)) (suc k)))
          × (held_places (set rows m array) counted k ≡ places_on (set assignment i (suc m)) (suc k))

      -- of the core itself
      holds_here : Holds m
      holds_here =
          let count : get_or counted m 0 ≡ suc (length (held_places rows counts m)) =
          get_or-set_same counts m (get_or counts m 0 + 1) 0 (omega (arith, holds.eight_counts)) ∙ omega (arith, held_count) in (
            count ∙ sym (ap length held_joined ∙ length_insert ltb i (held_places rows counts m)),
            rw (count, get_or-set_same rows m array [] (omega (arith, holds.eight_arrays))) (stored ∙ sym held_joined),
          )

      -- of another core
      holds_elsewhere : (k : ℕ) → k < 8 → (k ≡ m → ⊥) → Holds k
      holds_elsewhere k h d =
          let same : places_on (set assignment i (suc m)) (suc k) ≡ places_on assignment (suc k) =
          places_other assignment i (suc m) (suc k) (λ e. omega arith) (λ e. d (omega arith)) in
          let count : get_or counted k 0 ≡ get_or counts k 0 = get_or-set_other counts m k (get_or counts m 0 + 1) 0 d in
          (rw (count, same) (holds.how_many k h), rw (count, get_or-set_other rows m k array [] d, same) (holds.places k h))

      held_after : HoldsCores (set assignment i (suc m)) (set rows m array) counted
      held_after =
          let each : (k : ℕ) → k < 8 → Holds k = λ k h. ⊎_elim (λ e. subst Holds (sym e) holds_here) (holds_elsewhere k h) (equal_or_not k m) in
          record {
            eight_arrays = length-set rows m array ∙ holds.eight_arrays;
            eight_counts = length-set counts m (get_or counts m 0 + 1) ∙ holds.eight_counts;
            how_many = λ k h. (each k h).0;
            places = λ k h. (each k h).1;
          }

    -- with those stored for the core and its count raised, the cores hold the assignment with row i on it
    pub held_put : (places array : List ℕ) → places ≡ held_places rows counts m → take (suc (length places)) array ≡ insert ltb i places
        → HoldsCores (set assignment i (suc m)) (set rows m array) (set counts m (get_or counts m 0 + 1))
    held_put places array same stored = held_after array (subst (λ (xs : List ℕ). take (suc (length xs)) array ≡ insert ltb i xs) same stored)

-- of at most 24 rows with row i on no core, each core has room for row i, and its rows are in the table
pub room_on_core :
    {n i : ℕ} {rows : List (List ℕ)} {counts : List ℕ}
    → HeldWithout n i rows counts
    → i < n
    → n ≤ 24
    → (m : ℕ)
    → m < 8
    → (places : List ℕ)
    → places ≡ held_places rows counts m
    → (length places < 24) × All (λ h. h < n) places
room_on_core {n} {i} {rows} {counts} without in_table no_25th m on_table places are =
    let fewer = held_fewer without.holds m on_table i (omega (arith, without.one_each)) without.on_none in
    subst (λ (xs : List ℕ). (length xs < 24) × All (λ h. h < n) xs) (sym are) (
      omega (arith, held_count without.holds m on_table, fewer, without.one_each),
      subst (λ (k : ℕ). All (λ h. h < k) (held_places rows counts m)) without.one_each (held_in_table without.holds m on_table),
    )
