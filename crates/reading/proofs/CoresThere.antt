-- The kind 1 record at the front: missing or cut, another kind, cores out of range, or rows to come.
use mathlib.Core.Path.{◌≡◌, refl, sym, ap, ◌∙◌}
use Prim.Native.Nat.{ℕ, ◌≤◌, ◌<◌}
use mathlib.Core.Bool.{Bool, true, false, ◌&&◌}
use mathlib.Core.List.{List, [], ◌∷◌}
use native.Mathlib.Omega.{arith}
use lib.Dec.{leb, eqb}
use lib.ListN.{length, get_or, drop}
use borrow.Author.Tests.{eq-eqb, ne_eqb, le-leb, leb-true}
use Rattle.theory.proofs.Limits.{both_pass}
use Rattle.records.specs.Reading.{Reading, refused, read_rows, read_cores, read_table}

-- bytes that are too few for a kind 1 record
pub cores_cut : (bytes : List ℕ) → length bytes < 2 → read_table bytes ≡ refused 1 0
unfolding read_table read_cores
cores_cut [] few = refl
cores_cut (kind ∷ []) few = go (eqb kind 1)
  where
    go : (is_first_lem : Bool) → elim is_first_lem as (λ b. Reading) [ true ↦ refused 1 0 | false ↦ refused 1 0 ] ≡ refused 1 0
    go true = refl
    go false = refl
cores_cut (kind ∷ cores ∷ after) few = absurd (omega arith)

-- another kind at the front
pub no_cores : (bytes : List ℕ) → (get_or bytes 0 0 ≡ 1 → ⊥) → read_table bytes ≡ refused 1 0
unfolding read_table
no_cores [] other = refl
no_cores (kind ∷ body) other = rw (ne_eqb kind 1 other, read_table)

-- a whole kind 1 record: its cores are looked at
cores_there :
    (bytes : List ℕ) → 2 ≤ length bytes → get_or bytes 0 0 ≡ 1 → (cores : ℕ) → cores ≡ get_or bytes 1 0 → read_table bytes ≡ read_cores (cores ∷ drop 2 bytes)
unfolding read_table
cores_there [] long first cores same = absurd (omega arith)
cores_there (kind ∷ []) long first cores same = absurd (omega arith)
cores_there (kind ∷ byte ∷ after) long first cores same = rw (eq-eqb kind 1 first, read_table) (ap (λ (number : ℕ). read_cores (number ∷ after)) (sym same))

module _ (bytes : List ℕ) (long : 2 ≤ length bytes) (first : get_or bytes 0 0 ≡ 1) (cores : ℕ) (same : cores ≡ get_or bytes 1 0) where
  pub cores_out_of_range : (1 ≤ cores → cores ≤ 8 → ⊥) → read_table bytes ≡ refused 2 0
  unfolding read_cores
  cores_out_of_range out = cores_there bytes long first cores same ∙ go (leb 1 cores && leb cores 8) refl
    where
      go : (in-range : Bool) → (leb 1 cores && leb cores 8) ≡ in-range → read_cores (cores ∷ drop 2 bytes) ≡ refused 2 0
      go true passes = let range = both_pass (leb 1 cores) (leb cores 8) passes in absurd (out (leb-true 1 cores range.0) (leb-true cores 8 range.1))
      go false fails = rw (fails, read_cores)

  pub cores_in_range : 1 ≤ cores → cores ≤ 8 → read_table bytes ≡ read_rows 24 cores [] (drop 2 bytes)
  unfolding read_cores
  cores_in_range some few = cores_there bytes long first cores same ∙ rw (le-leb 1 cores some, le-leb cores 8 few, read_cores)
