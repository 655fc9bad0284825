-- The body of a kind 4 record: cut, no rows, another count, bytes after, or the end of the table.
use mathlib.Core.Path.{◌≡◌, refl, sym, ◌∙◌}
use Prim.Native.Nat.{ℕ, ◌≤◌, ◌<◌}
use mathlib.Core.List.{List, [], ◌∷◌}
use native.Mathlib.Omega.{arith}
use lib.ListN.{length, get_or, drop}
use borrow.Author.Tests.{eq-eqb, ne_eqb}
use Rattle.answers.specs.declared.Refusal.TheVariants.{RecordsBroken, RowsOutOfRange, CountDiffers}
use Rattle.std.specs.Prelude.{Ok, Err}
use Rattle.theory.specs.Row.{Row}
use Rattle.records.specs.Reading.{read_count}
use Rattle.reading.specs.Next.{ended_with, IsCount}
use Rattle.reading.proofs.Bytes.{none_left, byte_and_rest}

module _ (cores : ℕ) where
  -- without rows a count is refused, whatever it is
  no_rows : (rows : List Row) (count : ℕ) (after : List ℕ) → length rows ≡ 0 → read_count cores rows (count ∷ after) ≡ ended_with (Err RowsOutOfRange) cores rows
  unfolding read_count
  no_rows [] count after none = refl
  no_rows (row ∷ rows) count after none = absurd (omega arith)

  -- another count is refused, whatever comes after
  other_count :
      (rows : List Row) (count : ℕ) (after : List ℕ) → 1 ≤ length rows → (count ≡ length rows → ⊥)
      → read_count cores rows (count ∷ after) ≡ ended_with (Err CountDiffers) cores rows
  unfolding read_count
  other_count [] count after some other = absurd (omega arith)
  other_count (row ∷ rows) count [] some other = rw (ne_eqb count (length (row ∷ rows)) other, read_count)
  other_count (row ∷ rows) count (byte ∷ after) some other = rw (ne_eqb count (length (row ∷ rows)) other, read_count)

  -- bytes after the count are refused
  bytes_after :
      (rows : List Row) (count : ℕ) (after : List ℕ) → 1 ≤ length rows → count ≡ length rows → 1 ≤ length after
      → read_count cores rows (count ∷ after) ≡ ended_with (Err RecordsBroken) cores rows
  unfolding read_count
  bytes_after [] count after some same more = absurd (omega arith)
  bytes_after (row ∷ rows) count [] some same more = absurd (omega arith)
  bytes_after (row ∷ rows) count (byte ∷ after) some same more = rw (eq-eqb count (length (row ∷ rows)) same, read_count)

  -- the count with nothing after it ends the table
  right_count : (rows : List Row) (count : ℕ) → 1 ≤ length rows → count ≡ length rows → read_count cores rows (count ∷ []) ≡ ended_with (Ok tt) cores rows
  unfolding read_count
  right_count [] count some same = absurd (omega arith)
  right_count (row ∷ rows) count some same = rw (eq-eqb count (length (row ∷ rows)) same, read_count)

module _ (body : List ℕ) (n : ℕ) where
  pub count_cut : length body < 1 → IsCount body n (Err RecordsBroken)
  unfolding read_count
  count_cut cut cores rows many = rw (none_left body cut)

  module _ (some_byte : 1 ≤ length body) where
    pub count_without_rows : n ≡ 0 → IsCount body n (Err RowsOutOfRange)
    count_without_rows none cores rows many = rw (byte_and_rest body some_byte) (no_rows cores rows _ _ (omega arith))

    pub count_differs : (n ≡ 0 → ⊥) → (get_or body 0 0 ≡ n → ⊥) → IsCount body n (Err CountDiffers)
    count_differs some other cores rows many = rw (byte_and_rest body some_byte) (other_count cores rows _ _ (omega arith) (λ same. other (same ∙ many)))

    pub count_and_more : (n ≡ 0 → ⊥) → get_or body 0 0 ≡ n → 1 ≤ length (drop 1 body) → IsCount body n (Err RecordsBroken)
    count_and_more some same more cores rows many = rw (byte_and_rest body some_byte) (bytes_after cores rows _ _ (omega arith) (same ∙ sym many) more)

    pub count_ends : (n ≡ 0 → ⊥) → get_or body 0 0 ≡ n → length (drop 1 body) < 1 → IsCount body n (Ok tt)
    count_ends some same nothing cores rows many =
        rw (byte_and_rest body some_byte, none_left (drop 1 body) nothing) (right_count cores rows _ (omega arith) (same ∙ sym many))
