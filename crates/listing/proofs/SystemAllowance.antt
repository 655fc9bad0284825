-- The system's allowance that the listing prints is the smallest of all rows', and the only one that is.
use mathlib.Core.Path.{◌≡◌, refl}
use Prim.Native.Nat.{ℕ, zero, suc, ◌≤◌, ◌<◌, min, suc-le-suc}
use native.Mathlib.Nat.{le_of_suc-le-suc}
use mathlib.Core.Bool.{Bool, true, false}
use mathlib.Core.List.{List, [], ◌∷◌}
use native.Mathlib.Omega.{arith}
use lib.Dec.{leb}
use lib.ListN.{length}
use borrow.Author.Tests.{leb-true, leb-false}
use Rattle.std.specs.Option.{unwrap_or}
use Rattle.std.specs.List.{fold, reduce}
use Rattle.placement.specs.Figures.{Figures, figures_from, figures_at, IsSystemAllowance}
use Rattle.listing.specs.Listing.{smallest_allowance, system_allowance}

-- a row whose allowance is no smaller may stand in front
larger_in_front :
    (figures : Figures) (all : List Figures) (a : ℕ) → a ≤ figures.allowance → IsSystemAllowance all a → IsSystemAllowance (figures ∷ all) a
larger_in_front figures all a no-smaller is =
    record { row = suc is.row; in_table = suc-le-suc is.in_table; its_allowance = is.its_allowance; smallest = at }
  where
    at : (i : ℕ) → i < length (figures ∷ all) → a ≤ (figures_at (figures ∷ all) i).allowance
    at zero inside = no-smaller
    at (suc i) inside = is.smallest i (le_of_suc-le-suc inside)

-- two rows at the front may change places
front_swapped :
    (figures next : Figures) (all : List Figures) (a : ℕ) → IsSystemAllowance (figures ∷ next ∷ all) a → IsSystemAllowance (next ∷ figures ∷ all) a
front_swapped figures next all a is = go is.row is.in_table is.its_allowance
  where
    at : (i : ℕ) → i < length (next ∷ figures ∷ all) → a ≤ (figures_at (next ∷ figures ∷ all) i).allowance
    at zero inside = is.smallest 1 (omega arith)
    at (suc zero) inside = is.smallest 0 (omega arith)
    at (suc (suc i)) inside = is.smallest (suc (suc i)) inside

    go : (row : ℕ) → row < length (figures ∷ next ∷ all) → (figures_at (figures ∷ next ∷ all) row).allowance ≡ a → IsSystemAllowance (next ∷ figures ∷ all) a
    go zero inside its = record { row = 1; in_table = omega arith; its_allowance = its; smallest = at }
    go (suc zero) inside its = record { row = 0; in_table = omega arith; its_allowance = its; smallest = at }
    go (suc (suc row)) inside its = record { row = suc (suc row); in_table = inside; its_allowance = its; smallest = at }

-- the work goes on in the same way from the same allowance
carried : {all : List Figures} (a b : ℕ) (others : List Figures) → a ≡ b → IsSystemAllowance all (smallest_allowance a others) → IsSystemAllowance all (smallest_allowance b others)
carried a b others same is = rw (← same) is

-- the smallest allowance of a row and others
smallest_allowance_lem : (figures : Figures) (others : List Figures) → IsSystemAllowance (figures ∷ others) (smallest_allowance figures.allowance others)
unfolding smallest_allowance
smallest_allowance_lem figures [] = record { row = 0; in_table = omega arith; its_allowance = refl; smallest = only }
  where
    only : (i : ℕ) → i < 1 → figures.allowance ≤ (figures_at (figures ∷ []) i).allowance
    only zero inside = omega arith
    only (suc i) inside = absurd (omega arith)
smallest_allowance_lem figures (next ∷ others) =
    go (leb figures.allowance next.allowance) refl (smallest_allowance_lem figures others) (smallest_allowance_lem next others)
  where
    go :
        (no_larger : Bool) → leb figures.allowance next.allowance ≡ no_larger
        → IsSystemAllowance (figures ∷ others) (smallest_allowance figures.allowance others)
        → IsSystemAllowance (next ∷ others) (smallest_allowance next.allowance others)
        → IsSystemAllowance (figures ∷ next ∷ others) (smallest_allowance figures.allowance (next ∷ others))
    go true no_larger with-figures with-next =
        carried _ _ others (omega (arith, leb-true))
        (front_swapped next figures others _ (larger_in_front next (figures ∷ others) _ (omega (arith, leb-true, with-figures.smallest 0 (omega arith))) with-figures))
    go false larger with-figures with-next =
        carried _ _ others (omega (arith, leb-false))
        (larger_in_front figures (next ∷ others) _ (omega (arith, leb-false, with-next.smallest 0 (omega arith))) with-next)

-- of a table with a row, the listing's is the system's allowance
pub system_allowance_smallest : (all : List Figures) → 1 ≤ length all → IsSystemAllowance all (system_allowance all)
unfolding system_allowance
system_allowance_smallest [] some = absurd (omega arith)
system_allowance_smallest (figures ∷ others) some = smallest_allowance_lem figures others

-- there is one system allowance
pub system_allowance_unique : (all : List Figures) (a b : ℕ) → IsSystemAllowance all a → IsSystemAllowance all b → a ≡ b
system_allowance_unique all a b is-a is_b = omega (arith, is-a.smallest is_b.row is_b.in_table, is_b.smallest is-a.row is-a.in_table)

-- with an allowance at hand, the smallest of the figures that three lists are is the smallest of it and the third list's numbers
smallest_of_lists : (cores responses allowances : List ℕ) → length responses ≡ length cores → length allowances ≡ length cores → (a : ℕ)
    → smallest_allowance a (figures_from cores responses allowances) ≡ fold min a allowances
unfolding smallest_allowance figures_from
smallest_of_lists [] [] [] r l a = refl
smallest_of_lists [] responses (allowance ∷ allowances) r l a = absurd (omega arith)
smallest_of_lists [] (response ∷ responses) [] r l a = absurd (omega arith)
smallest_of_lists (core ∷ cores) [] allowances r l a = absurd (omega arith)
smallest_of_lists (core ∷ cores) (response ∷ responses) [] r l a = absurd (omega arith)
smallest_of_lists (core ∷ cores) (response ∷ responses) (allowance ∷ allowances) r l a =
    smallest_of_lists cores responses allowances (omega arith) (omega arith) (min a allowance)

-- the system's allowance is the smallest number of the third list, and 0 where there is none
pub system_allowance_of_lists : (cores responses allowances : List ℕ) → length responses ≡ length cores → length allowances ≡ length cores
    → system_allowance (figures_from cores responses allowances) ≡ unwrap_or (reduce min allowances) 0
unfolding system_allowance figures_from
system_allowance_of_lists [] [] [] r l = refl
system_allowance_of_lists [] responses (allowance ∷ allowances) r l = absurd (omega arith)
system_allowance_of_lists [] (response ∷ responses) [] r l = absurd (omega arith)
system_allowance_of_lists (core ∷ cores) [] allowances r l = absurd (omega arith)
system_allowance_of_lists (core ∷ cores) (response ∷ responses) [] r l = absurd (omega arith)
system_allowance_of_lists (core ∷ cores) (response ∷ responses) (allowance ∷ allowances) r l =
    smallest_of_lists cores responses allowances (omega arith) (omega arith) allowance
