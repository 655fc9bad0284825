-- NO MORE THAN 1654 BYTES ARE WRITTEN FOR THE CERTIFICATE OF A TEXT, and 316 for its table: with so many lent none is refused as too long.
use mathlib.Core.Path.{◌≡◌}
use Prim.Native.Nat.{ℕ, ◌≤◌}
use mathlib.Core.List.{List}
use native.Mathlib.Omega.{arith}
use lib.ListN.{length}
use Rattle.theory.specs.Returned.{Returned}
use Rattle.placement.specs.Core.{Table}
use Rattle.placement.specs.Choice.{Rule}
use Rattle.placement.specs.Figures.{Figures, Certified}
use Rattle.records.specs.Reading.{TableWithin, refused}
use Rattle.records.proofs.Lengths.{table_bytes_length}
use Rattle.texts.specs.Table.{read_text}
use Rattle.texts.specs.Columns.{certified_text}
use Rattle.texts.proofs.Reading.{read_text_within, text_refused}
use Rattle.texts.proofs.Longest.{certified_text_length}
use Rattle.certifying.proofs.Small.{certified_digits}
use Rattle.service.specs.Text.{TextAnswered, TextTabled}

-- the text of a table within the rules
pub written_length : (rule : Rule) (t : Table) (all : List Figures) → TableWithin t → Certified rule t all → length (certified_text t.rows all) ≤ 1654
written_length rule t all within c = certified_text_length t.rows all within.no_25th_row within.rows_within (certified_digits rule t all within c)

-- no refusal of reading has the number 7
reading_not_7 : (cores : ℕ) (text : List ℕ) (number row : ℕ) → read_text cores text ≡ refused number row → number ≡ 7 → ⊥
reading_not_7 cores text number row is-refused seven = let nine = (text_refused cores text number row is-refused).none_from_5_to_8 (omega arith) in omega arith

pub never_too_short : {rule : Rule} {cores : ℕ} {text lent : List ℕ} {returns : Returned} {n : ℕ} {after : List ℕ} → 1654 ≤ length lent → TextAnswered rule cores text lent returns n after → returns.number ≡ 7 → ⊥
never_too_short {cores = cores} {text = text} long (TextAnswered.not_a_table number row p) seven = reading_not_7 cores text number row p seven
never_too_short long (TextAnswered.no_core_takes_it t i p s) seven = omega arith
never_too_short {rule = rule} {cores = cores} {text = text} long (TextAnswered.output_too_short t all p c short) seven = omega (arith, written_length rule t all (read_text_within cores text t p) c)
never_too_short long (TextAnswered.accepted t all p c fits) seven = omega arith

pub table_never_too_short : {cores : ℕ} {text lent : List ℕ} {returns : Returned} {n : ℕ} {after : List ℕ} → 316 ≤ length lent → TextTabled cores text lent returns n after → returns.number ≡ 7 → ⊥
table_never_too_short {cores} {text} long (TextTabled.not_a_table number row p) seven = reading_not_7 cores text number row p seven
table_never_too_short {cores} {text} long (TextTabled.output_too_short t p short) seven = omega (arith, table_bytes_length t, (read_text_within cores text t p).no_25th_row)
table_never_too_short long (TextTabled.accepted t p fits) seven = omega arith

-- how many bytes are written
pub text_written_length : {rule : Rule} {cores : ℕ} {text lent : List ℕ} {returns : Returned} {n : ℕ} {after : List ℕ} → TextAnswered rule cores text lent returns n after → n ≤ 1654
text_written_length (TextAnswered.not_a_table number row p) = omega arith
text_written_length (TextAnswered.no_core_takes_it t i p s) = omega arith
text_written_length (TextAnswered.output_too_short t all p c short) = omega arith
text_written_length {rule = rule} {cores = cores} {text = text} (TextAnswered.accepted t all p c fits) = written_length rule t all (read_text_within cores text t p) c

pub table_written_length : {cores : ℕ} {text lent : List ℕ} {returns : Returned} {n : ℕ} {after : List ℕ} → TextTabled cores text lent returns n after → n ≤ 316
table_written_length (TextTabled.not_a_table number row p) = omega arith
table_written_length (TextTabled.output_too_short t p short) = omega arith
table_written_length {cores} {text} (TextTabled.accepted t p fits) = omega (arith, table_bytes_length t, (read_text_within cores text t p).no_25th_row)
