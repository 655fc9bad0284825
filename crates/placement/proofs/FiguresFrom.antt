-- The figures that three lists are, one for each row.
use mathlib.Core.Path.{◌≡◌, refl, ap}
use Prim.Native.Nat.{ℕ, zero, suc}
use mathlib.Core.List.{List, [], ◌∷◌}
use native.Mathlib.Omega.{arith}
use lib.ListN.{length, get_or}
use Rattle.placement.specs.Figures.{figures_from, figures_at}

-- as many as the cores, where the lists have one length
pub figures_from_length : (cores responses allowances : List ℕ) → length responses ≡ length cores → length allowances ≡ length cores
    → length (figures_from cores responses allowances) ≡ length cores
unfolding figures_from
figures_from_length [] responses allowances r a = refl
figures_from_length (core ∷ cores) [] allowances r a = absurd (omega arith)
figures_from_length (core ∷ cores) (response ∷ responses) [] r a = absurd (omega arith)
figures_from_length (core ∷ cores) (response ∷ responses) (allowance ∷ allowances) r a =
    ap suc (figures_from_length cores responses allowances (omega arith) (omega arith))

-- the figures of a row are the three numbers at its place
pub figures_from_at : (cores responses allowances : List ℕ) → length responses ≡ length cores → length allowances ≡ length cores → (i : ℕ)
    → figures_at (figures_from cores responses allowances) i ≡ record { core = get_or cores i 0; response = get_or responses i 0; allowance = get_or allowances i 0 }
unfolding figures_from
figures_from_at [] [] [] r a i = refl
figures_from_at [] [] (allowance ∷ allowances) r a i = absurd (omega arith)
figures_from_at [] (response ∷ responses) allowances r a i = absurd (omega arith)
figures_from_at (core ∷ cores) [] allowances r a i = absurd (omega arith)
figures_from_at (core ∷ cores) (response ∷ responses) [] r a i = absurd (omega arith)
figures_from_at (core ∷ cores) (response ∷ responses) (allowance ∷ allowances) r a zero = refl
figures_from_at (core ∷ cores) (response ∷ responses) (allowance ∷ allowances) r a (suc i) =
    figures_from_at cores responses allowances (omega arith) (omega arith) i
