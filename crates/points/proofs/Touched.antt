-- The entries on row i of the bounds of the row at a place by rank: there is one where raising row i touches that row, and each is its bound on row i.
use mathlib.Core.Path.{◌≡◌, refl, sym, subst}
use Prim.Native.Nat.{ℕ, ◌<◌}
use mathlib.Core.Logic.{⊎_elim}
use mathlib.Core.List.{List}
use lib.Dec.{T, eqb, eqb→eq, eqb_refl}
use lib.IntN.{ℤ, pos}
use lib.ListN.{length, get_or}
use Rattle.theory.specs.Row.{Row}
use Rattle.theory.specs.Rank.{rival}
use Rattle.theory.specs.Points.{IsBound, touches, bound}
use Rattle.theory.specs.Lists.{Shaped, rows_of}
use Rattle.theory.proofs.Tests.{or_cases, or_first, or_second}
use Rattle.theory.proofs.At.{each_at, stands_in}
use Rattle.theory.proofs.Attained.{Attained}
use Rattle.theory.proofs.Bound.{bound_is, bound_unique}
use Rattle.climbs.specs.Ranking.{ranking_by, rivals_in}
use Rattle.points.specs.Bounds.{IsOn, a_rival, itself}
use Rattle.points.proofs.Rivals.{each_is_rival, each_rival_held}
use Rattle.points.proofs.Bounding.{HoldsBounds}

-- the bound on row i of the row at a place by rank
abbrev pub bound_at : List ℕ → List ℕ → List ℕ → ℕ → ℕ → ℤ
bound_at cs ds ts i place = bound (rows_of cs ds ts) (get_or (ranking_by ds) place 0) i

-- raising row i touches the row at a place by rank
abbrev pub TouchedAt : List ℕ → List ℕ → List ℕ → ℕ → ℕ → Type 0
TouchedAt cs ds ts i place = T (touches (rows_of cs ds ts) i (get_or (ranking_by ds) place 0))

module _ (cs ds ts : List ℕ) (shaped : Shaped cs ds ts) (place : ℕ) where
  abbrev rows : List Row
  rows = rows_of cs ds ts

  abbrev k : ℕ
  k = get_or (ranking_by ds) place 0

  abbrev hs : List ℕ
  hs = rivals_in (ranking_by ds) ds k

  -- only rows that touch row k have an entry
  on_touches : (i j : ℕ) → IsOn hs k i j → T (touches rows i k)
  on_touches i j (a_rival h e) =
      or_second (eqb k i) (rival rows i k) (subst (λ (x : ℕ). T (rival rows x k)) e (each_at (λ x. (x < length rows) × T (rival rows x k)) hs (each_is_rival cs ds ts shaped k) j h).1)
  on_touches i j (itself h e) = or_first (eqb k i) (rival rows i k) (subst (λ (x : ℕ). T (eqb k x)) e (eqb_refl k))

  module _ {best : List ℤ} (holds : HoldsBounds rows k hs best) (i : ℕ) where
    -- the bound of an entry
    abbrev entry : ℕ → ℤ
    entry j = get_or best j (pos 0)

    -- an entry on row i is the bound on row i
    entry_is_bound : (j : ℕ) → IsOn hs k i j → entry j ≡ bound rows k i
    entry_is_bound j on = bound_unique rows k i (entry j) (bound rows k i) (stated on) (bound_is rows k i)
      where
        stated : IsOn hs k i j → IsBound rows k i (entry j)
        stated (a_rival h e) = subst (λ (x : ℕ). IsBound rows k x (entry j)) e (holds.on_rivals j h)
        stated (itself h e) = subst (λ (x : ℕ). IsBound rows k x (entry j)) e (subst (λ (x : ℕ). IsBound rows k k (entry x)) (sym h) holds.on_itself)

    -- what an entry on row i is: a bound of row k, which row i touches
    pub entry_attained : (j : ℕ) → IsOn hs k i j → Attained (bound_at cs ds ts i) (λ p. (p ≡ place) × TouchedAt cs ds ts i p) (entry j)
    entry_attained j on = record { at = place; visited = (refl, on_touches i j on); gives = sym (entry_is_bound j on) }

    -- where row i touches row k, its bound on row i is an entry
    pub bound_attained : i < length rows → (p : ℕ) → (p ≡ place) × TouchedAt cs ds ts i p → Attained entry (IsOn hs k i) (bound_at cs ds ts i p)
    bound_attained inside p touched =
        subst (λ (q : ℕ). Attained entry (IsOn hs k i) (bound_at cs ds ts i q)) (sym touched.0)
        (⊎_elim (λ same. found (length hs) (itself refl (eqb→eq k i same)))
        (λ is_rival. let stands = stands_in (each_rival_held cs ds ts shaped k i inside is_rival) in found stands.place (a_rival stands.inside stands.there))
        (or_cases (eqb k i) (rival rows i k) (subst (TouchedAt cs ds ts i) touched.0 touched.1)))
      where
        found : (j : ℕ) → IsOn hs k i j → Attained entry (IsOn hs k i) (bound rows k i)
        found j on = record { at = j; visited = on; gives = entry_is_bound j on }
