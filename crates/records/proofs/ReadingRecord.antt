-- One record of a table: what it was if it was read on the way to a table.
use mathlib.Core.Path.{◌≡◌, refl}
use Prim.Native.Nat.{ℕ, ◌≤◌}
use mathlib.Core.Bool.{Bool, true, false}
use mathlib.Core.List.{List, [], ◌∷◌, ◌++◌}
use native.Mathlib.Omega.{arith}
use lib.Dec.{leb, eqb}
use lib.ListN.{length, drop, length-drop}
use lib.Seq.{drop-drop}
use borrow.Author.Tests.{leb-true, eqb-true}
use Rattle.theory.specs.Row.{Row, WithinLimits, within_limits}
use Rattle.theory.proofs.Limits.{passing_keeps_limits}
use Rattle.placement.specs.Core.{Table}
use Rattle.records.specs.Number.{number_at, four_bytes}
use Rattle.records.specs.Reading.{Reading, table, refused, row_in, read_row, read_count, read_record}
use Rattle.records.specs.Report.{row_record, count_record}
use Rattle.records.proofs.Number.{AllBelow, all_below_drop, number_reads_back, front_number_bytes}

-- a refusal is no table
pub refusal_no_table : {number row : ℕ} {t : Table} → refused number row ≡ table t → ⊥
refusal_no_table e = let z : ◌≡◌ {A = ℕ} 0 1 = cc in omega arith

-- a reading that a test decides, and that is a table: the test passed
pub test_passed :
    (test : Bool) (x : Reading) (number row : ℕ) {t : Table}
    → elim test as (λ b. Reading) [ true ↦ x | false ↦ refused number row ] ≡ table t
    → (test ≡ true) × (x ≡ table t)
test_passed true x number row e = (refl, e)
test_passed false x number row e = absurd (refusal_no_table e)

-- what a record was that was read on the way to a table
pub data RecordRead (cores : ℕ) (rows : List Row) (row : List ℕ → Reading) (bytes : List ℕ) (t : Table) : Type 0 where
  row_record_lem : (body : List ℕ) → bytes ≡ 2 ∷ body → row body ≡ table t → RecordRead cores rows row bytes t
  count_record_lem : bytes ≡ count_record rows → 1 ≤ length rows → t ≡ record { cores = cores; rows = rows } → RecordRead cores rows row bytes t

-- behind a kind 4 byte there is the number of rows read, and nothing else
count_read :
    (cores : ℕ) (rows : List Row) (row : List ℕ → Reading) (body : List ℕ) (t : Table) → read_count cores rows body ≡ table t
    → RecordRead cores rows row (4 ∷ body) t
unfolding read_count
count_read cores rows row [] t e = absurd (refusal_no_table e)
count_read cores [] row (count ∷ after) t e = absurd (refusal_no_table e)
count_read cores (first ∷ rows) row (count ∷ []) t e =
    let passed = test_passed (eqb count _) _ _ _ e in
    let count-right = eqb-true count _ passed.0 in
    count_record_lem (cc) (omega arith) (cc)
count_read cores (first ∷ rows) row (count ∷ (byte ∷ after)) t e = absurd (refusal_no_table (test_passed (eqb count _) _ _ _ e).1)

-- a record that is read on the way to a table is a row's or the count's
pub record_read :
    (cores : ℕ) (rows : List Row) (row : List ℕ → Reading) (bytes : List ℕ) (t : Table) → read_record cores rows row bytes ≡ table t
    → RecordRead cores rows row bytes t
unfolding read_record
record_read cores rows row [] t e = absurd (refusal_no_table e)
record_read cores rows row (kind ∷ body) t e = go (eqb kind 2) refl
  where
    go : (is_row : Bool) → eqb kind 2 ≡ is_row → RecordRead cores rows row (kind ∷ body) t
    go true is_row = row_record_lem body (cc (eqb-true kind 2 is_row)) (rw (is_row, read_record) at e)
    go false no_row =
        let passed = test_passed (eqb kind 4) _ _ _ (rw (no_row, read_record) at e) in
        rw (eqb-true kind 4 passed.0) (count_read cores rows row body t passed.1)

-- what the body of a kind 2 record was that was read on the way to a table
pub record RowRead (next : Row → List ℕ → Reading) (body : List ℕ) (t : Table) : Type 0 where
  pub whole : 12 ≤ length body
  pub within : WithinLimits (row_in body)
  pub goes_on : next (row_in body) (drop 12 body) ≡ table t

-- a body that is read on the way to a table is whole, and its row is within the limits
pub row_read : (rows : List Row) (next : Row → List ℕ → Reading) (body : List ℕ) (t : Table) → read_row rows next body ≡ table t → RowRead next body t
unfolding read_row
row_read rows next body t e =
    let long = test_passed (leb 12 (length body)) _ _ _ e in
    let passed = test_passed (within_limits (row_in body)) _ _ _ long.1 in
    record { whole = leb-true 12 (length body) long.0; within = passing_keeps_limits (row_in body) passed.0; goes_on = passed.1 }

-- the body of a kind 2 record, with what comes after
abbrev pub row_body : Row → List ℕ → List ℕ
row_body row after = drop 1 (row_record row ++ after)

-- the row of a kind 2 record reads back from its body
pub row_reads_back : (row : Row) (after : List ℕ) → WithinLimits row → row_in (row_body row after) ≡ row
unfolding four_bytes row_in number_at
row_reads_back row after within i =
    record {
      C = number_reads_back row.C (omega arith) i;
      D = number_reads_back row.D (omega arith) i;
      T = number_reads_back row.T (omega arith) i;
    }

-- a whole body is that of its row
pub whole_body : (body : List ℕ) → 12 ≤ length body → AllBelow 256 body → row_body (row_in body) (drop 12 body) ≡ body
unfolding row_in number_at four_bytes
whole_body body whole below =
    cc (
      front_number_bytes body (omega arith) below,
      front_number_bytes (drop 4 body) (omega (arith, length-drop 4 body)) (all_below_drop 256 4 body below),
      front_number_bytes (drop 8 body) (omega (arith, length-drop 8 body)) (all_below_drop 256 8 body below),
      drop-drop 4 4 body,
      drop-drop 4 8 body,
    )
