-- The order in which rows are taken.
use mathlib.Core.Path.{◌≡◌, sym, ap}
use Prim.Native.Nat.{ℕ, ◌*◌, ◌≤◌, ◌<◌}
use native.Mathlib.Nat.{mul-le-mul_right, mul-lt-mul_of_pos_right, eq_of_mul-eq-mul_right, lt_of_mul-lt-mul_right}
use native.Mathlib.Omega.{arith}
use mathlib.Core.Logic.{◌⊎◌}
use mathlib.Core.List.{List, Memᴰ}
use lib.Dec.{T}
use lib.ListN.{length}
use Rattle.theory.specs.Gather.{All}
use Rattle.theory.specs.Row.{Row, row_at, AllWithin}
use Rattle.theory.specs.Rank.{places}
use Rattle.theory.proofs.Tests.{less_or_tied_lem, passes_less_or_tied, tied_connected, tied_chain}
use Rattle.theory.proofs.Each.{all_sort}
use Rattle.theory.proofs.Member.{mem_sort}
use Rattle.theory.proofs.Places.{places_inside, mem_places}
use Rattle.theory.proofs.Order.{Ordered, ordered_map, up_from_ascending, sort_ordered_among, sort_symmetric}
use Rattle.placement.specs.Order.{cross, taken_before, taken}

-- Utilisations by cross products: c's is b's, and b's is a's.
pub utilisation_eq : (a b c : Row) → 0 < b.T → b.C * a.T ≡ a.C * b.T → c.C * b.T ≡ b.C * c.T → c.C * a.T ≡ a.C * c.T
utilisation_eq a b c positive h k =
    eq_of_mul-eq-mul_right b.T positive (c.C * a.T) (a.C * c.T) (omega (arith, ap (λ n. n * c.T) h, ap (λ n. n * a.T) k))

-- c's is at most b's, and b's is below a's
pub utilisation_lt : (a b c : Row) → 0 < c.T → b.C * a.T < a.C * b.T → c.C * b.T ≤ b.C * c.T → c.C * a.T < a.C * c.T
utilisation_lt a b c positive h k = lt_of_mul-lt-mul_right b.T (omega (arith, mul-lt-mul_of_pos_right h positive, mul-le-mul_right a.T k))

-- c's is below b's, and b's is a's
pub utilisation_lt_second : (a b c : Row) → 0 < a.T → b.C * a.T ≡ a.C * b.T → c.C * b.T < b.C * c.T → c.C * a.T < a.C * c.T
utilisation_lt_second a b c positive h k = lt_of_mul-lt-mul_right b.T (omega (arith, ap (λ n. n * c.T) h, mul-lt-mul_of_pos_right k positive))

-- row i has the greater utilisation; on a tie, it is the earlier in the table
abbrev pub TakenBefore : List Row → ℕ → ℕ → Type 0
TakenBefore rows i j =
    ((row_at rows j).C * (row_at rows i).T < (row_at rows i).C * (row_at rows j).T)
    ⊎ (((row_at rows j).C * (row_at rows i).T ≡ (row_at rows i).C * (row_at rows j).T) × (i < j))

-- the test says what document 01 says
pub taken_before_says : (rows : List Row) (i j : ℕ) → T (taken_before rows i j) → TakenBefore rows i j
taken_before_says rows i j = less_or_tied_lem (cross rows j i) (cross rows i j) i j

-- what document 01 says, the test says
pub says_taken_before : (rows : List Row) (i j : ℕ) → TakenBefore rows i j → T (taken_before rows i j)
says_taken_before rows i j = passes_less_or_tied (cross rows j i) (cross rows i j) i j

-- it goes on from one to the next, where no period is 0
pub taken_before_transitive :
    (rows : List Row) (i j k : ℕ)
    → 0 < (row_at rows i).T
    → 0 < (row_at rows j).T
    → 0 < (row_at rows k).T
    → TakenBefore rows i j
    → TakenBefore rows j k
    → TakenBefore rows i k
taken_before_transitive rows i j k pi pj pk s t =
    tied_chain s t (utilisation_lt (row_at rows i) (row_at rows j) (row_at rows k) pk) (utilisation_lt_second (row_at rows i) (row_at rows j) (row_at rows k) pi) (utilisation_eq (row_at rows i) (row_at rows j) (row_at rows k) pj)

-- what is taken are the places of the table
pub taken_places : (rows : List Row) → All (λ i. i < length rows) (taken rows)
unfolding taken
taken_places rows = all_sort (λ i. i < length rows) (taken_before rows) (places rows) (places_inside rows)

-- every place is taken
pub taken_every : (rows : List Row) (i : ℕ) → i < length rows → Memᴰ i (taken rows)
unfolding taken
taken_every rows i h = mem_sort (taken_before rows) (mem_places rows i h)

-- no place is taken twice
pub taken_once : (rows : List Row) → Ordered (λ i j. i ≡ j → ⊥) (taken rows)
unfolding taken
taken_once rows = sort_symmetric (λ i j. i ≡ j → ⊥) (taken_before rows) (λ i j h e. h (sym e)) (places rows) (ordered_map (places rows) (λ i j h e. omega arith) (up_from_ascending 0 (length rows)))

-- each row is taken before each that comes later
pub taken_in_order : (rows : List Row) → AllWithin rows → Ordered (λ i j. T (taken_before rows i j)) (taken rows)
unfolding taken
taken_in_order rows within =
    sort_ordered_among
    (λ i. i < length rows)
    (taken_before rows)
    (λ i j k pi pj pk h g. says_taken_before rows i k (taken_before_transitive rows i j k (has_period i pi) (has_period j pj) (has_period k pk) (taken_before_says rows i j h) (taken_before_says rows j k g)))
    (λ i j pi pj h. tied_connected (cross rows j i) (cross rows i j) i j (λ e. omega arith))
    (places rows)
    (places_inside rows)
    (up_from_ascending 0 (length rows))
  where
    has_period : (i : ℕ) → i < length rows → 0 < (row_at rows i).T
    has_period i h = let limits = within i h in omega arith
