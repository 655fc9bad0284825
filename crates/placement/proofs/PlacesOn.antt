-- The places of a core's rows in the table, and the place of a row among them.
use mathlib.Core.Path.{◌≡◌, refl, sym, ap, ◌∙◌}
use Prim.Native.Nat.{ℕ, zero, suc, ◌+◌, ◌-◌, ◌≤◌, ◌<◌}
use native.Mathlib.Omega.{arith}
use native.Mathlib.Nat.{zero-add}
use mathlib.Core.Bool.{Bool}
use mathlib.Core.Logic.{◌⊎◌, inl, inr}
use mathlib.Core.List.{List, [], ◌∷◌, ◌++◌, map, map-map}
use borrow.Author.Tests.{lt-ltb, le-ltb, eq-eqb, ne_eqb}
use lib.Dec.{ltb, eqb, eqb→eq, leb-suc-suc}
use lib.ListN.{length, get_or, set, replicate, length-set, length-append}
use lib.Seq.{get_or-append_seam}
use Rattle.theory.specs.Row.{Row, row_at}
use Rattle.theory.specs.Gather.{up_from, keep, insert, All}
use Rattle.theory.proofs.Tests.{equal_or_not}
use Rattle.theory.proofs.Each.{insert_cases, all_map, all_keep, keep_passes, all_up_from}
use Rattle.theory.proofs.Member.{length_up_from, up_from_append, length_insert, keep_shift}
use Rattle.theory.proofs.Order.{Ordered, up_from_ascending, ordered_keep}
use Rattle.theory.proofs.At.{each_at, ascending_once}
use Rattle.theory.proofs.InPlace.{insert_before, insert_behind}
use Rattle.theory.proofs.Kept.{keep_passes_first, keep_fails_first, keep_append, length_keep_le}
use Rattle.placement.specs.Core.{core_rows, core_of, places_on, place_on_core}
use Rattle.placement.proofs.Core.{core_rows_here, core_rows_elsewhere}

-- whether the row at a place is on core m
abbrev on_core : List ℕ → ℕ → ℕ → Bool
on_core assignment m h = eqb (core_of assignment h) m

module _ (core : ℕ) (assignment : List ℕ) (m : ℕ) where
  -- the first row is on the core: place 0, and the places of the others, one further
  pub places_here : core ≡ m → places_on (core ∷ assignment) m ≡ 0 ∷ map suc (places_on assignment m)
  unfolding places_on up_from
  places_here e =
      keep_passes_first (on_core (core ∷ assignment) m) 0 (up_from 1 (length assignment)) (eq-eqb core m e)
      ∙ ap (λ (hs : List ℕ). 0 ∷ hs) (keep_shift (on_core (core ∷ assignment) m) 0 (length assignment))

  -- the first row is on another core: the places of the others, one further
  pub places_elsewhere : (core ≡ m → ⊥) → places_on (core ∷ assignment) m ≡ map suc (places_on assignment m)
  unfolding places_on up_from
  places_elsewhere d =
      keep_fails_first (on_core (core ∷ assignment) m) 0 (up_from 1 (length assignment)) (ne_eqb core m d)
      ∙ keep_shift (on_core (core ∷ assignment) m) 0 (length assignment)

-- the rows of a core are the rows at its places
pub core_rows_at_places :
    (rows : List Row) (assignment : List ℕ) (m : ℕ)
    → length assignment ≡ length rows
    → core_rows rows assignment m ≡ map (row_at rows) (places_on assignment m)
unfolding core_rows places_on up_from keep
core_rows_at_places [] [] m e = refl
core_rows_at_places [] (core ∷ assignment) m e = absurd (omega arith)
core_rows_at_places (row ∷ rows) [] m e = refl
core_rows_at_places (row ∷ rows) (core ∷ assignment) m e =
    go (equal_or_not core m) (core_rows_at_places rows assignment m (omega arith) ∙ sym (map-map (row_at (row ∷ rows)) suc (places_on assignment m)))
  where
    go :
        (core ≡ m) ⊎ (core ≡ m → ⊥)
        → core_rows rows assignment m ≡ map (row_at (row ∷ rows)) (map suc (places_on assignment m))
        → core_rows (row ∷ rows) (core ∷ assignment) m ≡ map (row_at (row ∷ rows)) (places_on (core ∷ assignment) m)
    go (inl e) h = rw (core_rows_here row rows core assignment m e, places_here core assignment m e) (ap (λ rs. row ∷ rs) h)
    go (inr d) h = rw (core_rows_elsewhere row rows core assignment m d, places_elsewhere core assignment m d) h

-- a place put among others, each one further
insert_further : (i : ℕ) (hs : List ℕ) → insert ltb (suc i) (map suc hs) ≡ map suc (insert ltb i hs)
unfolding insert
insert_further i [] = refl
insert_further i (h ∷ hs) =
    insert_cases (λ ks. insert ltb (suc i) (map suc (h ∷ hs)) ≡ map suc ks) ltb i h hs
    (λ e. insert_before ltb (suc i) (suc h) (map suc hs) (leb-suc-suc (suc i) h ∙ e))
    (λ e. insert_behind ltb (suc i) (suc h) (map suc hs) (leb-suc-suc (suc i) h ∙ e) ∙ ap (λ (ks : List ℕ). suc h ∷ ks) (insert_further i hs))

-- place 0 comes first
insert_zero : (hs : List ℕ) → insert ltb 0 (map suc hs) ≡ 0 ∷ map suc hs
unfolding insert
insert_zero [] = refl
insert_zero (h ∷ hs) = insert_before ltb 0 (suc h) (map suc hs) (lt-ltb 0 (suc h) (omega arith))

-- a row that comes to a core: its place is put among the core's
pub places_joined :
    (assignment : List ℕ) (i m : ℕ)
    → i < length assignment
    → (core_of assignment i ≡ m → ⊥)
    → places_on (set assignment i m) m ≡ insert ltb i (places_on assignment m)
places_joined [] i m h was = absurd (omega arith)
places_joined (core ∷ assignment) zero m h was =
    places_here m assignment m refl ∙ sym (insert_zero (places_on assignment m)) ∙ ap (insert ltb 0) (sym (places_elsewhere core assignment m was))
places_joined (core ∷ assignment) (suc i) m h was = go (equal_or_not core m) (places_joined assignment i m (omega arith) was)
  where
    go :
        (core ≡ m) ⊎ (core ≡ m → ⊥)
        → places_on (set assignment i m) m ≡ insert ltb i (places_on assignment m)
        → places_on (core ∷ set assignment i m) m ≡ insert ltb (suc i) (places_on (core ∷ assignment) m)
    go (inl e) same =
        rw (places_here core (set assignment i m) m e, places_here core assignment m e, same, ← insert_further i (places_on assignment m))
        (sym (insert_behind ltb (suc i) 0 (map suc (places_on assignment m)) (le-ltb (suc i) 0 (omega arith))))
    go (inr d) same =
        rw (places_elsewhere core (set assignment i m) m d, places_elsewhere core assignment m d, same) (sym (insert_further i (places_on assignment m)))

-- a row that moves between two other cores leaves a core's places as they are
pub places_other :
    (assignment : List ℕ) (i n m : ℕ)
    → (core_of assignment i ≡ m → ⊥)
    → (n ≡ m → ⊥)
    → places_on (set assignment i n) m ≡ places_on assignment m
places_other [] i n m was new = refl
places_other (core ∷ assignment) zero n m was new = places_elsewhere n assignment m new ∙ sym (places_elsewhere core assignment m was)
places_other (core ∷ assignment) (suc i) n m was new = go (equal_or_not core m) (places_other assignment i n m was new)
  where
    go :
        (core ≡ m) ⊎ (core ≡ m → ⊥)
        → places_on (set assignment i n) m ≡ places_on assignment m
        → places_on (core ∷ set assignment i n) m ≡ places_on (core ∷ assignment) m
    go (inl e) same = rw (places_here core (set assignment i n) m e, places_here core assignment m e, same)
    go (inr d) same = rw (places_elsewhere core (set assignment i n) m d, places_elsewhere core assignment m d, same)

-- at the start a core has no places
pub places_none : (n m : ℕ) → 1 ≤ m → places_on (replicate n 0) m ≡ []
unfolding places_on up_from keep
places_none zero m h = refl
places_none (suc n) m h = places_elsewhere 0 (replicate n 0) m (λ e. omega arith) ∙ ap (map suc) (places_none n m h)

module _ (assignment : List ℕ) (m : ℕ) where
  -- each place is one of the table
  pub places_in_table : All (λ h. h < length assignment) (places_on assignment m)
  unfolding places_on
  places_in_table =
      let all = up_from 0 (length assignment) in
      all_keep (λ h. h < length assignment) (on_core assignment m) all (all_map all (λ h b. omega arith) (all_up_from 0 (length assignment)))

  -- each place's row is on the core
  pub places_on_core : All (λ h. core_of assignment h ≡ m) (places_on assignment m)
  unfolding places_on
  places_on_core =
      let all = up_from 0 (length assignment) in
      all_map (places_on assignment m) (λ h t. eqb→eq (core_of assignment h) m t) (keep_passes (on_core assignment m) all)

  -- the places stand in table order
  pub places_ascending : Ordered ◌<◌ (places_on assignment m)
  unfolding places_on
  places_ascending = ordered_keep ◌<◌ (on_core assignment m) (up_from 0 (length assignment)) (up_from_ascending 0 (length assignment))

  -- they are no more than the table's rows
  pub places_at_most : length (places_on assignment m) ≤ length assignment
  unfolding places_on
  places_at_most = omega (arith, length_keep_le (on_core assignment m) (up_from 0 (length assignment)), length_up_from 0 (length assignment))

-- they are fewer, where a row is on another core or on none
pub places_fewer :
    (assignment : List ℕ) (i m : ℕ)
    → i < length assignment
    → (core_of assignment i ≡ m → ⊥)
    → length (places_on assignment m) < length assignment
places_fewer assignment i m h was =
    omega (
      arith,
      places_at_most (set assignment i m) m,
      length-set assignment i m,
      ap length (places_joined assignment i m h was),
      length_insert ltb i (places_on assignment m),
    )

module _ (assignment : List ℕ) (i : ℕ) (inside : i < length assignment) where
  -- the places on row i's core that stand before it
  abbrev before : List ℕ
  before = keep (on_core assignment (core_of assignment i)) (up_from 0 i)

  -- and those that stand behind it
  abbrev behind : List ℕ
  behind = keep (on_core assignment (core_of assignment i)) (up_from (suc i) (length assignment - suc i))

  -- they are all, with its own between them
  places_around : places_on assignment (core_of assignment i) ≡ before ++ (i ∷ behind)
  unfolding places_on up_from
  places_around =
      let test = on_core assignment (core_of assignment i) in
      let left = length assignment - suc i in
      let all : length assignment ≡ i + suc left = omega arith in
      ap (λ (n : ℕ). keep test (up_from 0 n)) all
      ∙ ap (keep test) (up_from_append 0 i (suc left))
      ∙ keep_append test (up_from 0 i) (up_from (0 + i) (suc left))
      ∙ ap (λ (k : ℕ). before ++ keep test (up_from k (suc left))) (zero-add i)
      ∙ ap (λ (hs : List ℕ). before ++ hs) (keep_passes_first test i (up_from (suc i) left) (eq-eqb (core_of assignment i) (core_of assignment i) refl))

  -- row i's place on its core is one of the core's
  pub place_on_core_inside : place_on_core assignment i < length (places_on assignment (core_of assignment i))
  unfolding place_on_core
  place_on_core_inside = omega (arith, ap length places_around, length-append before (i ∷ behind))

  -- and row i's place in the table stands there
  pub place_at_place_on_core : get_or (places_on assignment (core_of assignment i)) (place_on_core assignment i) 0 ≡ i
  unfolding place_on_core
  place_at_place_on_core = ap (λ (hs : List ℕ). get_or hs (length before) 0) places_around ∙ get_or-append_seam before i behind 0

-- the row whose place stands at p of a core's places has place p on the core
pub place_on_core_at : (assignment : List ℕ) (m p : ℕ) → p < length (places_on assignment m) → place_on_core assignment (get_or (places_on assignment m) p 0) ≡ p
place_on_core_at assignment m p h =
    let hs = places_on assignment m in
    let i = get_or hs p 0 in
    let inside : i < length assignment = each_at (λ k. k < length assignment) hs (places_in_table assignment m) p h in
    let here : core_of assignment i ≡ m = each_at (λ k. core_of assignment k ≡ m) hs (places_on_core assignment m) p h in
    let below : place_on_core assignment i < length hs = rw here at (place_on_core_inside assignment i inside) in
    let there : get_or hs (place_on_core assignment i) 0 ≡ i = rw here at (place_at_place_on_core assignment i inside) in
    ascending_once hs (places_ascending assignment m) (place_on_core assignment i) p below h there
