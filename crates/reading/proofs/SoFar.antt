-- The way through the records behind kind 1: where it begins, one more row, and the end.
use mathlib.Core.Path.{◌≡◌, refl, ◌∙◌}
use Prim.Native.Nat.{ℕ, ◌+◌, ◌-◌}
use mathlib.Core.List.{List, []}
use lib.ListN.{drop, set}
use Rattle.answers.specs.Answer.{Answer}
use Rattle.theory.specs.Row.{Row}
use Rattle.theory.specs.Lists.{rows_of}
use Rattle.records.specs.Reading.{read_rows}
use Rattle.rows.specs.Held.{held_rows, Held}
use Rattle.reading.specs.Next.{ended_with, Ends, IsRow}
use Rattle.rows.proofs.Fronts.{held_rows_many, held_one_more, held_rows_one_more}

-- where the reading stands: some records are left to be read, behind the rows held
pub record SoFar (records : List ℕ) (cores : ℕ) (c d t : List ℕ) (n : ℕ) (rest : List ℕ) : Type 0 where
  pub held : Held n c d t
  pub reads_on : read_rows 24 cores [] records ≡ read_rows (24 - n) cores (held_rows n c d t) rest

module _ (records : List ℕ) (cores : ℕ) where
  -- behind kind 1, with no rows yet
  pub begins : (c d t : List ℕ) → Held 0 c d t → SoFar records cores c d t 0 records
  unfolding rows_of
  begins c d t held = record { held = held; reads_on = refl }

  module _ (c d t : List ℕ) (n : ℕ) (rest : List ℕ) (so_far : SoFar records cores c d t n rest) where
    -- behind one more row
    pub goes_on : (row : Row) → IsRow rest n row → SoFar records cores (set c n row.C) (set d n row.D) (set t n row.T) (n + 1) (drop 13 rest)
    goes_on row is_row = record {
      held = held_one_more c d t n so_far.held is_row.no_25th_row row.C row.D row.T;
      reads_on =
          rw (held_rows_one_more c d t n so_far.held is_row.no_25th_row row.C row.D row.T)
          (so_far.reads_on ∙ is_row.goes_on cores (held_rows n c d t) (held_rows_many c d t n so_far.held));
    }

    -- at the end
    pub ends : (answer : Answer) → Ends rest n answer → read_rows 24 cores [] records ≡ ended_with answer cores (held_rows n c d t)
    ends answer says = so_far.reads_on ∙ says cores (held_rows n c d t) (held_rows_many c d t n so_far.held)
