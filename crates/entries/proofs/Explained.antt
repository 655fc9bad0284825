-- The explanation on bytes, from what it returns on the numbers that they are.
use mathlib.Core.Logic.{⊎_elim}
use Prim.Native.Nat.{ℕ}
use mathlib.Core.List.{List}
use lib.ListN.{take}
use Rattle.std.proofs.Common.{Ok, Err}
use Rattle.answers.specs.declared.Refusal.{Refusal}
use Rattle.answers.specs.Answer.{refused_with}
use Rattle.theory.specs.Returned.{Returned, returned}
use Rattle.theory.specs.Explanation.{Explained, rows_out_of_range}
use Rattle.records.specs.ExplanationBytes.{BytesExplained, lengths_not_fours, explained_as_numbers}
use Rattle.entries.specs.declared.lists.Lists.{Lists}
use Rattle.entries.specs.Lists.{AreLists, no_rows, as_lists}
use Rattle.entries.proofs.RowBytes.{no_rows_because}

module _ {cs ds ts : List ℕ} {row : ℕ} where
  -- byte strings that are no rows
  pub unread_explained : {refusal : Refusal} → AreLists cs ds ts (Err refusal) → BytesExplained cs ds ts row (refused_with refusal) 0 0
  unread_explained (no_rows none) =
      ⊎_elim lengths_not_fours (λ whole. explained_as_numbers (returned 3 0) 0 0 whole.0 (rows_out_of_range whole.1)) (no_rows_because cs ds ts none)

  -- the numbers that others are
  pub read_explained : {lists : Lists} {returns : Returned} {limiting point : ℕ} → AreLists cs ds ts (Ok lists)
      → Explained (take lists.n lists.c) (take lists.n lists.d) (take lists.n lists.t) row returns limiting point
      → BytesExplained cs ds ts row returns limiting point
  read_explained {returns = returns} {limiting = limiting} {point = point} (as_lists lists some fours is_c is_d is_t) explained =
      explained_as_numbers returns limiting point fours (rw (is_c, is_d, is_t) at explained)
