-- A table that is read keeps the rules, and has the bytes that were read.
use mathlib.Core.Path.{◌≡◌, ap, ◌∙◌, sym}
use Prim.Native.Nat.{ℕ, zero, suc, ◌≤◌, suc-le-suc}
use mathlib.Core.Bool.{◌&&◌}
use mathlib.Core.List.{List, [], ◌∷◌, ◌++◌, flat_map, append-nil}
use native.Mathlib.Omega.{arith}
use lib.Dec.{leb, eqb}
use lib.ListN.{length, drop}
use lib.Seq.{append_snoc}
use borrow.Author.Tests.{leb-true, eqb-true}
use Rattle.theory.specs.Row.{Row, WithinLimits, AllWithin}
use Rattle.theory.proofs.Limits.{within_cons, both_pass}
use Rattle.placement.specs.Core.{Table}
use Rattle.records.specs.Number.{four_bytes}
use Rattle.records.specs.Reading.{table, refused, TableWithin, row_in, read_row, read_rows, read_cores, read_table}
use Rattle.records.specs.Report.{row_record, count_record, table_records, table_bytes}
use Rattle.records.proofs.Number.{AllBelow, all_below_drop}
use Rattle.records.proofs.ReadingRecord.{row_body, refusal_no_table, test_passed, RecordRead, row_record_lem, count_record_lem, record_read, row_read, whole_body}

-- what was read behind kind 1 and the rows so far, on the way to a table
record RowsRead (left cores : ℕ) (rows : List Row) (bytes : List ℕ) (t : Table) : Type 0 where
  more : List Row
  is_table_lem : t ≡ record { cores = cores; rows = rows ++ more }
  some_row : 1 ≤ length (rows ++ more)
  few : length more ≤ left
  more_within : AllWithin more
  same_bytes : AllBelow 256 bytes → bytes ≡ flat_map row_record more ++ count_record (rows ++ more)

module _ (left cores : ℕ) (rows : List Row) (t : Table) where
  -- the count ends the table
  count_ends : (bytes : List ℕ) → bytes ≡ count_record rows → 1 ≤ length rows → t ≡ record { cores = cores; rows = rows } → RowsRead left cores rows bytes t
  unfolding flat_map
  count_ends bytes is-count some is_table_lem =
      record {
        more = [];
        is_table_lem = rw append-nil is_table_lem;
        some_row = rw append-nil some;
        few = omega arith;
        more_within = λ k inside. absurd (omega arith);
        same_bytes = λ below. rw append-nil is-count;
      }

  -- a row goes before the rows behind it
  row_before :
      (body : List ℕ) → 12 ≤ length body → WithinLimits (row_in body) → RowsRead left cores (rows ++ (row_in body ∷ [])) (drop 12 body) t
      → RowsRead (suc left) cores rows (2 ∷ body) t
  unfolding flat_map four_bytes
  row_before body whole within behind =
      let same = append_snoc rows (row_in body) behind.more in
      record {
        more = row_in body ∷ behind.more;
        is_table_lem = rw (← same) behind.is_table_lem;
        some_row = rw (← same) behind.some_row;
        few = suc-le-suc behind.few;
        more_within = within_cons (row_in body) behind.more within behind.more_within;
        same_bytes = λ below.
            let body_below = all_below_drop 256 1 (2 ∷ body) below in
            rw (← same)
            (ap (λ bytes. 2 ∷ bytes) (sym (whole_body body whole body_below) ∙ ap (row_body (row_in body)) (behind.same_bytes (all_below_drop 256 12 body body_below))));
      }

-- a table that is read behind the rows so far
rows_read : (left cores : ℕ) (rows : List Row) (bytes : List ℕ) (t : Table) → read_rows left cores rows bytes ≡ table t → RowsRead left cores rows bytes t
unfolding read_rows
rows_read zero cores rows bytes t e = go (record_read cores rows _ bytes t e)
  where
    go : RecordRead cores rows (λ body. refused 3 0) bytes t → RowsRead zero cores rows bytes t
    go (row_record_lem body is_row e) = absurd (refusal_no_table e)
    go (count_record_lem is-count some is_table_lem) = count_ends zero cores rows t bytes is-count some is_table_lem
rows_read (suc left) cores rows bytes t e = go (λ rows bytes e. rows_read left cores rows bytes t e) (record_read cores rows _ bytes t e)
  where
    go :
        ((rows : List Row) (bytes : List ℕ) → read_rows left cores rows bytes ≡ table t → RowsRead left cores rows bytes t)
        → RecordRead cores rows (read_row rows (λ row after. read_rows left cores (rows ++ (row ∷ [])) after)) bytes t
        → RowsRead (suc left) cores rows bytes t
    go behind (row_record_lem body is_row e) =
        let read = row_read rows _ body t e in
        rw is_row (row_before left cores rows t body read.whole read.within (behind _ _ read.goes_on))
    go behind (count_record_lem is-count some is_table_lem) = count_ends (suc left) cores rows t bytes is-count some is_table_lem

-- what is known of a table that is read from bytes
record TableRead (bytes : List ℕ) (t : Table) : Type 0 where
  within : TableWithin t
  same_bytes : AllBelow 256 bytes → bytes ≡ table_bytes t

-- both follow from what was read behind kind 1
table_read : (bytes : List ℕ) (t : Table) → read_table bytes ≡ table t → TableRead bytes t
unfolding read_table read_cores table_bytes table_records
table_read [] t e = absurd (refusal_no_table e)
table_read (kind ∷ []) t e = absurd (refusal_no_table (test_passed (eqb kind 1) _ _ _ e).1)
table_read (kind ∷ (cores ∷ after)) t e =
    let is_first_lem = test_passed (eqb kind 1) _ _ _ e in
    let in-range = test_passed (leb 1 cores && leb cores _) _ _ _ is_first_lem.1 in
    let range = both_pass (leb 1 cores) (leb cores _) in-range.0 in
    let rows = rows_read _ cores [] after t in-range.1 in
    record {
      within = rw rows.is_table_lem
          (record {
            some_core = leb-true 1 cores range.0;
            no_9th_core = omega (arith, leb-true cores _ range.1);
            some_row = rows.some_row;
            no_25th_row = omega (arith, rows.few);
            rows_within = rows.more_within;
          });
      same_bytes = λ below.
          rw rows.is_table_lem (cc (eqb-true kind 1 is_first_lem.0, rows.same_bytes (all_below_drop 256 2 (kind ∷ cores ∷ after) below)));
    }

-- a table that is read keeps the rules
pub read_table_within : (bytes : List ℕ) (t : Table) → read_table bytes ≡ table t → TableWithin t
read_table_within bytes t e = (table_read bytes t e).within

-- a table is read from its own bytes only
pub read_from_own_bytes : (bytes : List ℕ) (t : Table) → AllBelow 256 bytes → read_table bytes ≡ table t → bytes ≡ table_bytes t
read_from_own_bytes bytes t below e = (table_read bytes t e).same_bytes below
