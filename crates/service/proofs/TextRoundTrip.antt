-- What an accepted call on a text writes: its first three columns are read as the text is.
use mathlib.Core.Path.{◌≡◌, ap, ◌∙◌}
use Prim.Native.Nat.{ℕ}
use mathlib.Core.List.{List}
use lib.ListN.{length, take, drop}
use lib.Seq.{take-append_seam}
use Rattle.theory.specs.Returned.{Returned, returned}
use Rattle.placement.specs.Choice.{Rule}
use Rattle.texts.specs.Table.{read_text}
use Rattle.texts.specs.Columns.{certified_text, first_columns}
use Rattle.texts.proofs.RoundTrip.{text_round_trip}
use Rattle.service.specs.Text.{TextAnswered}
use Rattle.service.proofs.Accepted.{accepted_text}

-- THE ROUND TRIP OF THE SERVICE, on the same cores
pub written_reads_back :
    {rule : Rule} {cores : ℕ} {text lent : List ℕ} {returns : Returned} {n : ℕ} {after : List ℕ}
    → TextAnswered rule cores text lent returns n after
    → returns ≡ returned 0 0
    → read_text cores (first_columns (take n after)) ≡ read_text cores text
written_reads_back {cores = cores} {text} {lent} {n = n} {after} answered accepted =
    let text_of = accepted_text answered accepted in
    let columns = certified_text text_of.of_table.rows text_of.figures in
    let left : take n after ≡ columns = cc (text_of.as_long, text_of.is_text, take-append_seam columns (drop (length columns) lent)) in
    ap (λ (bytes : List ℕ). read_text cores (first_columns bytes)) left
    ∙ text_round_trip cores text text_of.of_table text_of.figures text_of.is_table_lem text_of.is_certified.are_figures.one_each
