-- The first of the records that are left, behind kind 1 and n rows: none, a count, another kind, a 25th row, a row cut short, a row that breaks the limits, or one more row.
use mathlib.Core.Path.{◌≡◌, refl, sym, ap, ◌∙◌}
use Prim.Native.Nat.{ℕ, zero, suc, ◌+◌, ◌-◌, ◌≤◌, ◌<◌}
use mathlib.Core.Bool.{true, false}
use mathlib.Core.List.{List, [], ◌∷◌, ◌++◌}
use native.Mathlib.Omega.{arith}
use native.Mathlib.Numerals.{add-one}
use lib.ListN.{length, get_or, drop}
use borrow.Author.Tests.{le-leb, lt-leb, ne_eqb}
use Rattle.std.specs.Prelude.{Err}
use Rattle.answers.specs.Answer.{Answer}
use Rattle.answers.specs.declared.Refusal.TheVariants.{RecordsBroken, RowsOutOfRange, RowBreaksLimits}
use Rattle.theory.specs.Row.{Row, within_limits}
use Rattle.records.specs.Reading.{Reading, row_in, read_row, read_record, read_rows}
use Rattle.reading.specs.Next.{ended_with, IsCount, Ends, IsRow}
use Rattle.reading.proofs.Bytes.{none_left, byte_and_rest}

-- a record that is no row is read alike, however many more rows there may be
module _ (cores : ℕ) (rows : List Row) (bytes : List ℕ) (end : Reading) where
  however_many_left : ((row : List ℕ → Reading) → read_record cores rows row bytes ≡ end) → (left : ℕ) → read_rows left cores rows bytes ≡ end
  unfolding read_rows
  however_many_left read zero = read _
  however_many_left read (suc left) = read _

-- a kind that is neither a row nor the count
other_kind :
    (cores : ℕ) (rows : List Row) (kind : ℕ) (body : List ℕ) → (kind ≡ 4 → ⊥) → (kind ≡ 2 → ⊥) → (row : List ℕ → Reading)
    → read_record cores rows row (kind ∷ body) ≡ ended_with (Err RecordsBroken) cores rows
unfolding read_record
other_kind cores rows kind body no-count no_row row = rw (ne_eqb kind 2 no_row, read_record) (rw (ne_eqb kind 4 no-count))

-- a kind 2 record by its body, where one more row is allowed
module _ (left cores : ℕ) (rows : List Row) (body : List ℕ) where
  body_cut : length body < 12 → read_rows (suc left) cores rows (2 ∷ body) ≡ ended_with (Err RecordsBroken) cores rows
  unfolding read_rows read_record read_row
  body_cut cut = rw (lt-leb 12 (length body) cut, read_row)

  body_breaks : 12 ≤ length body → within_limits (row_in body) ≡ false → read_rows (suc left) cores rows (2 ∷ body) ≡ ended_with (Err (RowBreaksLimits (suc (length rows)))) cores rows
  unfolding read_rows read_record read_row
  body_breaks whole breaks = rw (le-leb 12 (length body) whole, read_row) (rw breaks)

  body_keeps : 12 ≤ length body → within_limits (row_in body) ≡ true
      → read_rows (suc left) cores rows (2 ∷ body) ≡ read_rows left cores (rows ++ (row_in body ∷ [])) (drop 12 body)
  unfolding read_rows read_record read_row
  body_keeps whole keeps = rw (le-leb 12 (length body) whole, read_row) (rw keeps)

-- how many more rows there may be, before one of them and after it
one_more : (n : ℕ) → n < 24 → 24 - n ≡ suc (24 - (n + 1))
one_more n few = omega arith

-- the first of some records, behind any n rows
module _ (records : List ℕ) (n : ℕ) where
  pub none_there : length records < 1 → Ends records n (Err RecordsBroken)
  unfolding read_record
  none_there none cores rows many = rw (none_left records none) (however_many_left cores rows [] _ (λ row. refl) (24 - n))

  module _ (some : 1 ≤ length records) where
    pub count_there : (answer : Answer) → get_or records 0 0 ≡ 4 → IsCount (drop 1 records) n answer → Ends records n answer
    unfolding read_record
    count_there answer is-count says cores rows many =
        rw (byte_and_rest records some, is-count) (however_many_left cores rows _ _ (λ row. says cores rows many) (24 - n))

    pub other_kind_there : (get_or records 0 0 ≡ 4 → ⊥) → (get_or records 0 0 ≡ 2 → ⊥) → Ends records n (Err RecordsBroken)
    other_kind_there no-count no_row cores rows many =
        rw (byte_and_rest records some) (however_many_left cores rows _ _ (other_kind cores rows _ _ no-count no_row) (24 - n))

-- a kind 2 record by its body
module _ (body : List ℕ) (n : ℕ) where
  pub row_25_there : n ≡ 24 → Ends (2 ∷ body) n (Err RowsOutOfRange)
  unfolding read_rows read_record
  row_25_there full cores rows many = rw full

  module _ (few : n < 24) where
    pub row_cut_there : length body < 12 → Ends (2 ∷ body) n (Err RecordsBroken)
    row_cut_there cut cores rows many = rw (one_more n few) (body_cut _ cores rows body cut)

    module _ (whole : 12 ≤ length body) {row : Row} (is_body : row ≡ row_in body) where
      pub broken_there : within_limits row ≡ false → Ends (2 ∷ body) n (Err (RowBreaksLimits (n + 1)))
      broken_there breaks cores rows many =
          rw (one_more n few, add-one n, ← many) (body_breaks _ cores rows body whole (ap within_limits (sym is_body) ∙ breaks))

      pub kept_there : within_limits row ≡ true → IsRow (2 ∷ body) n row
      kept_there keeps = record {
        no_25th_row = few;
        whole = omega arith;
        goes_on = λ cores rows many. rw (one_more n few, is_body) (body_keeps _ cores rows body whole (ap within_limits (sym is_body) ∙ keeps));
      }
