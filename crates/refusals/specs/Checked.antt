-- The checks before any climb: refusals 3, 4 and 7 of document 01, in this order.
use Rattle.std.specs.Prelude.{◌≡◌, ℕ, suc, ◌≤◌, ◌<◌, ◌⊎◌, List, length, Result, Ok, Err}
use Rattle.answers.specs.declared.Refusal.{Refusal}
use Rattle.answers.specs.declared.Refusal.TheVariants.{RowsOutOfRange, RowBreaksLimits, OutputTooShort}
use Rattle.theory.specs.Row.{AllWithin, FirstBroken}
use Rattle.theory.specs.Lists.{rows_of, Shaped}
use Rattle.rows.specs.declared.Rows.{Rows}

-- the answer to three lists and the lengths of two answer lists, as far as the checks go; what passes is given as rows, on the same lists
pub data Checked (cs ds ts : List ℕ) (responses allowances : ℕ) : Result Rows Refusal → Type 0 where
  rows_out_of_range : (Shaped cs ds ts → ⊥) → Checked cs ds ts responses allowances (Err RowsOutOfRange)
  row_breaks_limits : (k : ℕ) → Shaped cs ds ts → FirstBroken (rows_of cs ds ts) k → Checked cs ds ts responses allowances (Err (RowBreaksLimits (suc k)))
  output_too_short :
      Shaped cs ds ts
      → AllWithin (rows_of cs ds ts)
      → (responses < length cs) ⊎ (allowances < length cs)
      → Checked cs ds ts responses allowances (Err OutputTooShort)
  passed :
      (rows : Rows)
      → rows.c.now ≡ cs
      → rows.d.now ≡ ds
      → rows.t.now ≡ ts
      → length cs ≤ responses
      → length cs ≤ allowances
      → Checked cs ds ts responses allowances (Ok rows)
