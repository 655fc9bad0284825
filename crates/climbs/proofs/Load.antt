-- The load of a row over rows above it, as lists of C and T: it grows with time, and over the rivals of a row it is the row's load. The levels of a row's
-- walk as rows of such lists.
use mathlib.Core.Path.{◌≡◌, refl, sym, ◌∙◌, ap, ap₂, subst, fun_ext}
use Prim.Native.Nat.{ℕ, zero, suc, ◌+◌, ◌*◌, ◌≤◌, ◌<◌}
use mathlib.Core.List.{List, [], ◌∷◌, map}
use native.Mathlib.Omega.{arith}
use native.Mathlib.Nat.{le_refl, mul-le-mul_right}
use lib.Dec.{T}
use lib.ListN.{length, get_or, take, length-take, length-map}
use lib.Seq.{get_or-take}
use Rattle.theory.specs.Row.{Row, row_at, WithinLimits, AllWithin}
use Rattle.theory.specs.Gather.{sum}
use Rattle.theory.specs.Rank.{above, rivals, levels}
use Rattle.theory.specs.Response.{ceil, demand, load}
use Rattle.theory.specs.Lists.{Shaped, rows_of}
use Rattle.theory.proofs.Member.{all_at, mem_get_or}
use Rattle.theory.proofs.Ceil.{ceil_mono}
use Rattle.theory.proofs.Demand.{ask}
use Rattle.theory.proofs.Sum.{sum_sort}
use Rattle.theory.proofs.RowsOf.{rows_of_length, row_of_lists, rows_of_places}
use Rattle.demands.specs.Levels.{demand_of, load_of, Small}
use Rattle.climbs.specs.Ranking.{above_by, ranking_by, rivals_in}
use Rattle.climbs.proofs.ByRank.{all_rivals_in, few_rivals_in, rivals_by_rank, levels_of_lists}

-- what rows ask for grows with time
pub demand_of_mono : (cs ts : List ℕ) (s t : ℕ) → s ≤ t → demand_of cs ts s ≤ demand_of cs ts t
unfolding demand_of
demand_of_mono [] ts s t h = le_refl 0
demand_of_mono (c ∷ cs) [] s t h = le_refl 0
demand_of_mono (c ∷ cs) (T ∷ ts) s t h = omega (arith, mul-le-mul_right c (ceil_mono T h), demand_of_mono cs ts s t h)

-- so does the load
pub load_of_mono : (own : ℕ) (cs ts : List ℕ) (s t : ℕ) → s ≤ t → load_of own cs ts s ≤ load_of own cs ts t
load_of_mono own cs ts s t h = omega (arith, demand_of_mono cs ts s t h)

-- the entries of a list at places
abbrev pub entries_at : List ℕ → List ℕ → List ℕ
entries_at xs hs = map (λ h. get_or xs h 0) hs

-- the entries of a list for the rivals of row k, by rank: their C of the list of C, their T of the list of T
abbrev pub rival_entries : List ℕ → List ℕ → ℕ → List ℕ
rival_entries xs ds k = entries_at xs (rivals_in (ranking_by ds) ds k)

-- what the rows at places ask for, as a sum over the places
demand_of_entries : (cs ts hs : List ℕ) (t : ℕ) → demand_of (entries_at cs hs) (entries_at ts hs) t ≡ sum (λ h. ceil t (get_or ts h 0) * get_or cs h 0) hs
unfolding demand_of sum
demand_of_entries cs ts [] t = refl
demand_of_entries cs ts (h ∷ hs) t = omega (arith, demand_of_entries cs ts hs t)

-- an entry of the entries
pub entry_at : (xs hs : List ℕ) (j : ℕ) → j < length hs → get_or (entries_at xs hs) j 0 ≡ get_or xs (get_or hs j 0) 0
entry_at xs [] j inside = absurd (omega arith)
entry_at xs (h ∷ hs) zero inside = refl
entry_at xs (h ∷ hs) (suc j) inside = entry_at xs hs j (omega arith)

module _ (cs ds ts : List ℕ) (shaped : Shaped cs ds ts) where
  -- the rows that the lists are
  abbrev rows : List Row
  rows = rows_of cs ds ts

  -- the row at a place, of the lists' numbers
  row_at_lem : (h : ℕ) → row_at rows h ≡ record { C = get_or cs h 0; D = get_or ds h 0; T = get_or ts h 0 }
  row_at_lem = row_of_lists cs ds ts shaped.as_many_deadlines shaped.as_many_periods

  -- over the rivals of row k it is the load of row k
  pub load_of_rivals : (k : ℕ) → load_of (get_or cs k 0) (rival_entries cs ds k) (rival_entries ts ds k) ≡ load rows k
  unfolding load demand
  load_of_rivals k = fun_ext (λ t. ap₂ ◌+◌ (ap (λ (row : Row). row.C) (sym (row_at_lem k))) (asked t))
    where
      asked : (t : ℕ) → demand_of (rival_entries cs ds k) (rival_entries ts ds k) t ≡ demand rows (rivals rows k) t
      asked t =
          demand_of_entries cs ts (rivals_in (ranking_by ds) ds k) t
          ∙ ap₂ sum (fun_ext (λ h. ap (λ (row : Row). ask row t) (sym (row_at_lem h)))) (rivals_by_rank cs ds ts shaped.as_many_deadlines shaped.as_many_periods k)
          ∙ sum_sort (λ h. ask (row_at rows h) t) (above rows) (rivals rows k)

  -- the levels of row k's walk are the rows of its rivals' entries
  pub levels_are_rows : (k : ℕ) → levels rows k ≡ rows_of (rival_entries cs ds k) (rival_entries ds ds k) (rival_entries ts ds k)
  levels_are_rows k =
      levels_of_lists cs ds ts shaped.as_many_deadlines shaped.as_many_periods k
      ∙ sym (rows_of_places cs ds ts shaped.as_many_deadlines shaped.as_many_periods (rivals_in (ranking_by ds) ds k))

  module _ (within : AllWithin rows) where
    -- the numbers of a row keep the limits
    pub limits_at : (h : ℕ) → h < length cs → WithinLimits (record { C = get_or cs h 0; D = get_or ds h 0; T = get_or ts h 0 })
    limits_at h inside = subst WithinLimits (row_at_lem h) (within h (omega (arith, rows_of_length cs ds ts shaped.as_many_deadlines shaped.as_many_periods)))

    -- no sum over the rivals of row k is large
    pub small_rivals : (k : ℕ) → Small (rival_entries cs ds k) (rival_entries ts ds k)
    small_rivals k = record {
      as_many = length-map hs (λ h. get_or ts h 0) ∙ sym same_length;
      few = omega (arith, same_length, few_rivals_in ds k, shaped.no_25th, shaped.as_many_deadlines);
      period_positive = λ j h. omega (arith, limits j h, entry_at ts hs j (inside j h));
      by_period = λ j h. omega (arith, limits j h, entry_at ts hs j (inside j h), entry_at cs hs j (inside j h));
      by_million = λ j h. omega (arith, limits j h, entry_at ts hs j (inside j h));
    }
      where
        hs : List ℕ
        hs = rivals_in (ranking_by ds) ds k

        same_length : length (rival_entries cs ds k) ≡ length hs
        same_length = length-map hs (λ h. get_or cs h 0)

        inside : (j : ℕ) → j < length (rival_entries cs ds k) → j < length hs
        inside j h = omega (arith, same_length)

        limits : (j : ℕ) → j < length (rival_entries cs ds k)
            → WithinLimits (record { C = get_or cs (get_or hs j 0) 0; D = get_or ds (get_or hs j 0) 0; T = get_or ts (get_or hs j 0) 0 })
        limits j h =
            limits_at (get_or hs j 0)
            (omega (arith, (all_at (λ x. (x < length ds) × T (above_by ds x k)) (mem_get_or hs j (inside j h)) (all_rivals_in ds k)).0, shaped.as_many_deadlines))

    -- no sum over the rows before a place is large
    pub small_above : (j : ℕ) → Small (take j cs) (take j ts)
    small_above j = record {
      as_many = omega (arith, length-take j cs, length-take j ts, shaped.as_many_periods);
      few = omega (arith, length-take j cs, shaped.no_25th);
      period_positive = λ i h. omega (arith, limits i h, here ts i h);
      by_period = λ i h. omega (arith, limits i h, here ts i h, here cs i h);
      by_million = λ i h. omega (arith, limits i h, here ts i h);
    }
      where
        inside : (i : ℕ) → i < length (take j cs) → (i < j) × (i < length cs)
        inside i h = (omega (arith, length-take j cs), omega (arith, length-take j cs))

        here : (xs : List ℕ) (i : ℕ) → i < length (take j cs) → get_or (take j xs) i 0 ≡ get_or xs i 0
        here xs i h = get_or-take j xs i 0 (inside i h).0

        limits : (i : ℕ) → i < length (take j cs) → WithinLimits (record { C = get_or cs i 0; D = get_or ds i 0; T = get_or ts i 0 })
        limits i h = limits_at i (inside i h).1
