-- The rows of a core, and the place of a row among them.
use mathlib.Core.Path.{◌≡◌, refl, sym, ap, ◌∙◌}
use Prim.Native.Nat.{ℕ, zero, suc, ◌≤◌, ◌<◌}
use native.Mathlib.Omega.{arith}
use mathlib.Core.Logic.{◌⊎◌, inl, inr}
use mathlib.Core.List.{List, [], ◌∷◌}
use lib.Dec.{eqb}
use lib.ListN.{length, set, replicate}
use borrow.Author.Tests.{eq-eqb, ne_eqb}
use Rattle.theory.specs.Row.{Row, row_at}
use Rattle.theory.specs.Gather.{up_from, keep}
use Rattle.theory.proofs.Tests.{equal_or_not}
use Rattle.theory.proofs.Member.{length_keep_shift}
use Rattle.placement.specs.Core.{core_rows, core_of, place_on_core}

module _ (row : Row) (rows : List Row) (core : ℕ) (assignment : List ℕ) (m : ℕ) where
  -- the first row is on the core
  pub core_rows_here : core ≡ m → core_rows (row ∷ rows) (core ∷ assignment) m ≡ row ∷ core_rows rows assignment m
  unfolding core_rows
  core_rows_here e = rw (eq-eqb core m e, core_rows)

  -- the first row is on another core
  pub core_rows_elsewhere : (core ≡ m → ⊥) → core_rows (row ∷ rows) (core ∷ assignment) m ≡ core_rows rows assignment m
  unfolding core_rows
  core_rows_elsewhere h = rw (ne_eqb core m h, core_rows)

-- what holds of each row of a table holds of each row of a core
pub core_rows_each :
    (P : Row → Type 0) (rows : List Row) (assignment : List ℕ) (m : ℕ)
    → ((k : ℕ) → k < length rows → P (row_at rows k))
    → (k : ℕ)
    → k < length (core_rows rows assignment m)
    → P (row_at (core_rows rows assignment m) k)
unfolding core_rows
core_rows_each P [] assignment m each k h = absurd (omega arith)
core_rows_each P (row ∷ rows) [] m each k h = absurd (omega arith)
core_rows_each P (row ∷ rows) (core ∷ assignment) m each k h =
    go (equal_or_not core m) (core_rows_each P rows assignment m (λ k h. each (suc k) (omega arith))) k h
  where
    first : (rs : List Row) → ((k : ℕ) → k < length rs → P (row_at rs k)) → (k : ℕ) → k < suc (length rs) → P (row_at (row ∷ rs) k)
    first rs others zero h = each 0 (omega arith)
    first rs others (suc k) h = others k (omega arith)

    go :
        (core ≡ m) ⊎ (core ≡ m → ⊥)
        → ((k : ℕ) → k < length (core_rows rows assignment m) → P (row_at (core_rows rows assignment m) k))
        → (k : ℕ)
        → k < length (core_rows (row ∷ rows) (core ∷ assignment) m)
        → P (row_at (core_rows (row ∷ rows) (core ∷ assignment) m) k)
    go (inl e) others = rw (core_rows_here row rows core assignment m e) (first (core_rows rows assignment m) others)
    go (inr d) others = rw (core_rows_elsewhere row rows core assignment m d) others

-- a row that moves between two other cores leaves a core's rows as they are
pub core_rows_other :
    (rows : List Row) (assignment : List ℕ) (i n m : ℕ)
    → (core_of assignment i ≡ m → ⊥)
    → (n ≡ m → ⊥)
    → core_rows rows (set assignment i n) m ≡ core_rows rows assignment m
unfolding core_rows
core_rows_other [] assignment i n m was new = refl
core_rows_other (row ∷ rows) [] i n m was new = refl
core_rows_other (row ∷ rows) (core ∷ assignment) zero n m was new =
    core_rows_elsewhere row rows n assignment m new ∙ sym (core_rows_elsewhere row rows core assignment m was)
core_rows_other (row ∷ rows) (core ∷ assignment) (suc i) n m was new = go (equal_or_not core m) (core_rows_other rows assignment i n m was new)
  where
    go :
        (core ≡ m) ⊎ (core ≡ m → ⊥)
        → core_rows rows (set assignment i n) m ≡ core_rows rows assignment m
        → core_rows (row ∷ rows) (core ∷ set assignment i n) m ≡ core_rows (row ∷ rows) (core ∷ assignment) m
    go (inl e) h = rw (core_rows_here row rows core assignment m e, core_rows_here row rows core (set assignment i n) m e) (ap (λ rs. row ∷ rs) h)
    go (inr d) h = rw (core_rows_elsewhere row rows core assignment m d, core_rows_elsewhere row rows core (set assignment i n) m d) h

-- at the start a core has no row
pub core_rows_none : (rows : List Row) (n m : ℕ) → 1 ≤ m → core_rows rows (replicate n 0) m ≡ []
unfolding core_rows
core_rows_none [] n m h = refl
core_rows_none (row ∷ rows) zero m h = refl
core_rows_none (row ∷ rows) (suc n) m h = core_rows_elsewhere row rows 0 (replicate n 0) m (λ e. omega arith) ∙ core_rows_none rows n m h

-- as many of the first i rows as are on core m
unfoldable pub count_before : List ℕ → ℕ → ℕ → ℕ
count_before assignment m i = length (keep (λ h. eqb (core_of assignment h) m) (up_from 0 i))

module _ (core : ℕ) (assignment : List ℕ) (m i : ℕ) where
  -- the first row is one of them
  count_here : core ≡ m → count_before (core ∷ assignment) m (suc i) ≡ suc (count_before assignment m i)
  unfolding count_before up_from keep
  count_here e = rw (eq-eqb core m e, keep) (ap suc (length_keep_shift (λ h. eqb (core_of (core ∷ assignment) h) m) 0 i))

  -- the first row is none of them
  count_elsewhere : (core ≡ m → ⊥) → count_before (core ∷ assignment) m (suc i) ≡ count_before assignment m i
  unfolding count_before up_from keep
  count_elsewhere d = rw (ne_eqb core m d, keep) (length_keep_shift (λ h. eqb (core_of (core ∷ assignment) h) m) 0 i)

-- where a row stands on its core: place n of the core's rows is that row
pub record StandsAt (rows on_core : List Row) (i n : ℕ) : Type 0 where
  pub in_core : n < length on_core
  pub same_row : row_at on_core n ≡ row_at rows i

-- the rows before it on the core, counted, give its place there
pub stands_at :
    (rows : List Row) (assignment : List ℕ) (i m : ℕ)
    → i < length rows
    → i < length assignment
    → core_of assignment i ≡ m
    → StandsAt rows (core_rows rows assignment m) i (count_before assignment m i)
unfolding count_before up_from keep
stands_at [] assignment i m h g e = absurd (omega arith)
stands_at (row ∷ rows) [] i m h g e = absurd (omega arith)
stands_at (row ∷ rows) (core ∷ assignment) zero m h g e = rw (core_rows_here row rows core assignment m e) (record { in_core = omega arith; same_row = refl })
stands_at (row ∷ rows) (core ∷ assignment) (suc i) m h g e = go (equal_or_not core m) (stands_at rows assignment i m (omega arith) (omega arith) e)
  where
    go :
        (core ≡ m) ⊎ (core ≡ m → ⊥)
        → StandsAt rows (core_rows rows assignment m) i (count_before assignment m i)
        → StandsAt (row ∷ rows) (core_rows (row ∷ rows) (core ∷ assignment) m) (suc i) (count_before (core ∷ assignment) m (suc i))
    go (inl e) s = rw (core_rows_here row rows core assignment m e, count_here core assignment m i e) (record { in_core = omega arith; same_row = s.same_row })
    go (inr d) s = rw (core_rows_elsewhere row rows core assignment m d, count_elsewhere core assignment m i d) (record { in_core = s.in_core; same_row = s.same_row })

-- row i of a table is the row at its place on its core
pub row_on_core :
    (rows : List Row) (assignment : List ℕ) (i : ℕ)
    → length assignment ≡ length rows
    → i < length rows
    → StandsAt rows (core_rows rows assignment (core_of assignment i)) i (place_on_core assignment i)
unfolding place_on_core count_before
row_on_core rows assignment i e h = stands_at rows assignment i (core_of assignment i) h (omega arith) refl
