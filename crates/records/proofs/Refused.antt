-- Bytes that are no table are refused with a number from 1 to 5 and a row up to 24.
use mathlib.Core.Path.{◌≡◌, subst}
use Prim.Native.Nat.{ℕ, zero, suc, ◌+◌, ◌≤◌}
use mathlib.Core.Bool.{Bool, true, false, ◌&&◌}
use mathlib.Core.List.{List, [], ◌∷◌, ◌++◌}
use native.Mathlib.Omega.{arith}
use lib.Dec.{leb, eqb}
use lib.ListN.{length, drop, length-append}
use Rattle.theory.specs.Row.{Row, within_limits}
use Rattle.placement.specs.Core.{Table}
use Rattle.records.specs.Reading.{Reading, table, refused, row_in, read_count, read_row, read_record, read_rows, read_cores, read_table}

-- what bytes can be: a table, or a refusal 1 to 5
data TableOr1To5 : Reading → Type 0 where
  a_table : (t : Table) → TableOr1To5 (table t)
  number_1 : TableOr1To5 (refused 1 0)
  number_2 : TableOr1To5 (refused 2 0)
  number_3 : TableOr1To5 (refused 3 0)
  number_4 : (row : ℕ) → row ≤ 24 → TableOr1To5 (refused 4 row)
  number_5 : TableOr1To5 (refused 5 0)

-- a test between two such readings
tested : (test : Bool) (x y : Reading) → TableOr1To5 x → TableOr1To5 y → TableOr1To5 (elim test [ true ↦ x | false ↦ y ])
tested true x y p q = p
tested false x y p q = q

count_read : (cores : ℕ) (rows : List Row) (bytes : List ℕ) → TableOr1To5 (read_count cores rows bytes)
unfolding read_count
count_read cores rows [] = number_1
count_read cores [] (count ∷ after) = number_3
count_read cores (row ∷ rows) (count ∷ []) = tested (eqb count _) _ _ (a_table _) number_5
count_read cores (row ∷ rows) (count ∷ (byte ∷ after)) = tested (eqb count _) _ _ number_1 number_5

row_read : (rows : List Row) (next : Row → List ℕ → Reading) (body : List ℕ) → suc (length rows) ≤ 24 → ((row : Row) (after : List ℕ) → TableOr1To5 (next row after)) → TableOr1To5 (read_row rows next body)
unfolding read_row
row_read rows next body few behind = tested (leb 12 (length body)) _ _ (tested (within_limits (row_in body)) _ _ (behind (row_in body) (drop 12 body)) (number_4 _ few)) number_1

record_read :
    (cores : ℕ) (rows : List Row) (row : List ℕ → Reading) (bytes : List ℕ) → ((body : List ℕ) → TableOr1To5 (row body))
    → TableOr1To5 (read_record cores rows row bytes)
unfolding read_record
record_read cores rows row [] behind = number_1
record_read cores rows row (kind ∷ body) behind = tested (eqb kind 2) _ _ (behind body) (tested (eqb kind 4) _ _ (count_read cores rows body) number_1)

rows_read : (left cores : ℕ) (rows : List Row) (bytes : List ℕ) → length rows + left ≤ 24 → TableOr1To5 (read_rows left cores rows bytes)
unfolding read_rows
rows_read zero cores rows bytes few = record_read cores rows _ bytes (λ body. number_3)
rows_read (suc left) cores rows bytes few =
    record_read cores rows _ bytes (λ body. row_read rows _ body (omega arith) (λ row after. rows_read left cores (rows ++ (row ∷ [])) after (omega (arith, length-append rows (row ∷ [])))))

table_read : (bytes : List ℕ) → TableOr1To5 (read_table bytes)
unfolding read_table read_cores
table_read [] = number_1
table_read (kind ∷ []) = tested (eqb kind 1) _ _ number_1 number_1
table_read (kind ∷ (cores ∷ after)) = tested (eqb kind 1) _ _ (tested (leb 1 cores && leb cores _) _ _ (rows_read _ cores [] after (omega arith)) number_2) number_1

-- the number of a refusal of reading is from 1 to 5, and its row no more than 24
pub refused_from_1_to_5 : (bytes : List ℕ) (number row : ℕ) → read_table bytes ≡ refused number row → (1 ≤ number) × (number ≤ 5) × (row ≤ 24)
refused_from_1_to_5 bytes number row is-refused = go (subst TableOr1To5 is-refused (table_read bytes))
  where
    go : {number row : ℕ} → TableOr1To5 (refused number row) → (1 ≤ number) × (number ≤ 5) × (row ≤ 24)
    go number_1 = (omega arith, omega arith, omega arith)
    go number_2 = (omega arith, omega arith, omega arith)
    go number_3 = (omega arith, omega arith, omega arith)
    go (number_4 row few) = (omega arith, omega arith, omega arith)
    go number_5 = (omega arith, omega arith, omega arith)
