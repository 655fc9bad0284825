-- What reading a text can give: a table that keeps the rules, on the number of cores that was given; or a refusal 2, 3, 4 or 9 with a row or line of 32 bits.
use mathlib.Core.Path.{◌≡◌, refl, sym, subst}
use Prim.Native.Nat.{ℕ, ◌^◌, ◌≤◌, ◌<◌}
use native.Mathlib.Omega.{arith}
use mathlib.Core.Bool.{Bool, true, false, ◌&&◌}
use mathlib.Core.List.{List, [], ◌∷◌}
use lib.Dec.{leb}
use borrow.Author.Tests.{leb-true}
use Rattle.theory.specs.Row.{Row}
use Rattle.theory.proofs.Limits.{both_pass}
use Rattle.placement.specs.Core.{Table}
use Rattle.records.specs.Reading.{Reading, table, refused, TableWithin}
use Rattle.texts.specs.Text.{Text, of_rows, not_of_the_form, text_of}
use Rattle.texts.specs.Table.{judged, table_from, in_rows_place, on_cores, read_text}
use Rattle.texts.proofs.Judged.{within_judged, Judged, are_sound, too_many, one_broken, judged_as}

-- a refusal, by number and row
pub record RefusedText (number row : ℕ) : Type 0 where
  pub from_2 : 2 ≤ number
  pub to_9 : number ≤ 9
  pub none_from_5_to_8 : 5 ≤ number → number ≡ 9
  pub row_fits : row < 2 ^ 32

data Possible (cores : ℕ) : Reading → Type 0 where
  a_table : (t : Table) → TableWithin t → t.cores ≡ cores → Possible cores (table t)
  a_refusal : (number row : ℕ) → RefusedText number row → Possible cores (refused number row)

-- refusals 2, 3 and 4
early : {cores : ℕ} (number row : ℕ) → 2 ≤ number → number ≤ 4 → row ≤ 24 → Possible cores (refused number row)
early number row from_2 to-4 row_fits = a_refusal number row (record { from_2 = from_2; to_9 = omega arith; none_from_5_to_8 = λ large. absurd (omega arith); row_fits = omega arith })

from_rows : (cores : ℕ) (rows : List Row) → Possible cores (table_from cores rows)
unfolding table_from
from_rows cores [] = go (leb 1 cores && leb cores 8)
  where
    go : (in-range : Bool) → Possible cores (elim in-range as (λ b. Reading) [ true ↦ refused 3 0 | false ↦ refused 2 0 ])
    go true = early 3 0 (omega arith) (omega arith) (omega arith)
    go false = early 2 0 (omega arith) (omega arith) (omega arith)
from_rows cores (row ∷ rows) = go (leb 1 cores && leb cores 8) refl (judged_as 1 (row ∷ rows) (omega arith))
  where
    go :
        (in-range : Bool) → leb 1 cores && leb cores 8 ≡ in-range → Judged 1 (row ∷ rows)
        → Possible cores (elim in-range as (λ b. Reading) [ true ↦ judged 1 (row ∷ rows) (table (record { cores = cores; rows = row ∷ rows })) | false ↦ refused 2 0 ])
    go false out_of_range rows_are = early 2 0 (omega arith) (omega arith) (omega arith)
    go true in-range (are_sound few within) =
        let range = both_pass (leb 1 cores) (leb cores 8) in-range in
        subst (Possible cores) (sym (within_judged 1 (row ∷ rows) _ few within))
        (a_table (record { cores = cores; rows = row ∷ rows })
        (record { some_core = leb-true 1 cores range.0; no_9th_core = leb-true cores 8 range.1; some_row = omega arith; no_25th_row = omega (arith, few); rows_within = within })
        refl)
    go true in-range (too_many refuses) = subst (Possible cores) (sym (refuses _)) (early 3 0 (omega arith) (omega arith) (omega arith))
    go true in-range (one_broken broken fits refuses) = subst (Possible cores) (sym (refuses _)) (early 4 broken (omega arith) (omega arith) fits)

text_read : (cores : ℕ) (text : List ℕ) → Possible cores (read_text cores text)
unfolding read_text on_cores in_rows_place
text_read cores text = go (text_of text)
  where
    go : (is : Text) → Possible cores (on_cores cores is)
    go (of_rows all) = from_rows cores all
    go (not_of_the_form line) = a_refusal 9 (in_rows_place line) (record { from_2 = omega arith; to_9 = omega arith; none_from_5_to_8 = λ large. refl; row_fits = omega arith })

module _ (cores : ℕ) (text : List ℕ) where
  module _ (t : Table) (is_table_lem : read_text cores text ≡ table t) where
    -- A TABLE THAT A TEXT IS READ AS KEEPS THE RULES
    pub read_text_within : TableWithin t
    read_text_within = go (subst (Possible cores) is_table_lem (text_read cores text))
      where
        go : Possible cores (table t) → TableWithin t
        go (a_table t within same-cores) = within

    -- and has the number of cores that was given
    pub read_text_cores : t.cores ≡ cores
    read_text_cores = go (subst (Possible cores) is_table_lem (text_read cores text))
      where
        go : Possible cores (table t) → t.cores ≡ cores
        go (a_table t within same-cores) = same-cores

  -- THE REFUSALS OF READING
  pub text_refused : (number row : ℕ) → read_text cores text ≡ refused number row → RefusedText number row
  text_refused number row is-refused = go (subst (Possible cores) is-refused (text_read cores text))
    where
      go : {number row : ℕ} → Possible cores (refused number row) → RefusedText number row
      go (a_refusal number row bounds) = bounds
