-- No table is longer than 316 bytes, and what a longer byte string is read as shows in its first 317: a reader that stops there answers as one that goes on.
use mathlib.Core.Path.{◌≡◌, refl, sym, ap, ap₂, ◌∙◌}
use Prim.Native.Nat.{ℕ, zero, suc, ◌+◌, ◌-◌, ◌*◌, ◌≤◌}
use mathlib.Core.Bool.{Bool, true, false, ◌&&◌}
use mathlib.Core.List.{List, [], ◌∷◌, ◌++◌}
use native.Mathlib.Omega.{arith}
use lib.Dec.{leb, eqb}
use lib.ListN.{length, take, drop, length-take}
use lib.Seq.{take-take, take-nil}
use borrow.Author.Tests.{leb-true, leb-false}
use Rattle.theory.specs.Row.{Row, within_limits}
use Rattle.records.specs.Number.{number_at, big_endian_from}
use Rattle.records.specs.Reading.{Reading, refused, row_in, read_count, read_row, read_record, read_rows, read_cores, read_table}

-- behind n entries of the first m are the first m - n of those behind n
drop_of_take : (n m : ℕ) (bytes : List ℕ) → n ≤ m → drop n (take m bytes) ≡ take (m - n) (drop n bytes)
drop_of_take zero m bytes h = let same : m ≡ m - 0 = omega arith in ap (λ (k : ℕ). take k bytes) same
drop_of_take (suc n) zero bytes h = absurd (omega arith)
drop_of_take (suc n) (suc m) [] h = sym (take-nil (suc m - suc n))
drop_of_take (suc n) (suc m) (byte ∷ bytes) h =
    let same : m - n ≡ suc m - suc n = omega arith in drop_of_take n m bytes (omega arith) ∙ ap (λ (k : ℕ). take k (drop n bytes)) same

module _ (m : ℕ) (body : List ℕ) (whole : 12 ≤ m) where
  -- a number of a record is in the body's bytes
  number_in_front : (at : ℕ) → at + 4 ≤ 12 → number_at at (take m body) ≡ number_at at body
  unfolding number_at
  number_in_front at h =
      ap (λ (bytes : List ℕ). big_endian_from 0 (take 4 bytes)) (drop_of_take at m body (omega arith)) ∙ ap (big_endian_from 0) (take-take 4 (m - at) (drop at body) (omega arith))

  -- so is its row
  row_in_front : row_in (take m body) ≡ row_in body
  unfolding row_in
  row_in_front i = record { C = number_in_front 0 (omega arith) i; D = number_in_front 4 (omega arith) i; T = number_in_front 8 (omega arith) i }

  -- and whether it is whole
  body_in_front : leb 12 (length (take m body)) ≡ leb 12 (length body)
  body_in_front = go (leb 12 (length body)) refl (leb 12 (length (take m body))) refl
    where
      go : (b : Bool) → leb 12 (length body) ≡ b → (a : Bool) → leb 12 (length (take m body)) ≡ a → a ≡ b
      go true e true f = refl
      go true e false f = absurd (omega (arith, leb-true 12 (length body) e, leb-false 12 (length (take m body)) f, length-take m body))
      go false e true f = absurd (omega (arith, leb-false 12 (length body) e, leb-true 12 (length (take m body)) f, length-take m body))
      go false e false f = refl

  -- a body is read in front where what comes after it is
  body_read_in_front : (rows : List Row) (next : Row → List ℕ → Reading)
      → ((row : Row) → next row (take (m - 12) (drop 12 body)) ≡ next row (drop 12 body))
      → read_row rows next (take m body) ≡ read_row rows next body
  unfolding read_row
  body_read_in_front rows next after =
      ap (λ (long : Bool). judged long (row_in (take m body)) (next (row_in (take m body)) (drop 12 (take m body)))) body_in_front
      ∙ ap (λ (row : Row). judged (leb 12 (length body)) row (next row (drop 12 (take m body)))) row_in_front
      ∙ ap (λ (then : Reading). judged (leb 12 (length body)) (row_in body) then) (ap (next (row_in body)) (drop_of_take 12 m body whole) ∙ after (row_in body))
    where
      judged : Bool → Row → Reading → Reading
      judged long row then =
          elim long [ true ↦ elim (within_limits row) [ true ↦ then | false ↦ refused 4 (suc (length rows)) ] | false ↦ refused 1 0 ]

-- behind a kind 4 byte two bytes tell
count_in_front : (m cores : ℕ) (rows : List Row) (body : List ℕ) → 2 ≤ m → read_count cores rows (take m body) ≡ read_count cores rows body
unfolding read_count
count_in_front zero cores rows body h = absurd (omega arith)
count_in_front (suc zero) cores rows body h = absurd (omega arith)
count_in_front (suc (suc m)) cores rows [] h = refl
count_in_front (suc (suc m)) cores [] (count ∷ after) h = refl
count_in_front (suc (suc m)) cores (row ∷ rows) (count ∷ []) h = refl
count_in_front (suc (suc m)) cores (row ∷ rows) (count ∷ (byte ∷ after)) h = refl

-- a record is read in front where the body of a row is
record_in_front : (m cores : ℕ) (rows : List Row) (row : List ℕ → Reading) (bytes : List ℕ) → 3 ≤ m
    → ((n : ℕ) (body : List ℕ) → suc n ≡ m → row (take n body) ≡ row body)
    → read_record cores rows row (take m bytes) ≡ read_record cores rows row bytes
unfolding read_record
record_in_front zero cores rows row bytes h body = absurd (omega arith)
record_in_front (suc m) cores rows row [] h row-body = refl
record_in_front (suc m) cores rows row (kind ∷ body) h row-body =
    ap₂ (λ (x y : Reading). elim (eqb kind 2) [ true ↦ x | false ↦ elim (eqb kind 4) [ true ↦ y | false ↦ refused 1 0 ] ]) (row-body m body refl) (count_in_front m cores rows body (omega arith))

-- with so many rows to come, the bytes of as many records and three more tell
rows_in_front : (left m cores : ℕ) (rows : List Row) (bytes : List ℕ) → 13 * left + 3 ≤ m → read_rows left cores rows (take m bytes) ≡ read_rows left cores rows bytes
unfolding read_rows
rows_in_front zero m cores rows bytes h = record_in_front m cores rows _ bytes (omega arith) (λ n body e. refl)
rows_in_front (suc left) m cores rows bytes h =
    record_in_front m cores rows _ bytes (omega arith)
    (λ n body e. body_read_in_front n body (omega arith) rows _ (λ row. rows_in_front left (n - 12) cores (rows ++ (row ∷ [])) (drop 12 body) (omega arith)))

-- 317 bytes tell what a byte string is as a table
pub table_in_front : (bytes : List ℕ) → read_table (take 317 bytes) ≡ read_table bytes
unfolding read_table read_cores
table_in_front [] = refl
table_in_front (kind ∷ []) = refl
table_in_front (kind ∷ (cores ∷ bytes)) =
    ap
    (λ (rows : Reading). elim (eqb kind 1) [
      | true ↦ elim (leb 1 cores && leb cores 8) [ true ↦ rows | false ↦ refused 2 0 ]
      | false ↦ refused 1 0
    ])
    (rows_in_front 24 315 cores [] bytes (omega arith))
