-- What each answer of the code returns: the number and the row of document 01, "Refusal numbers", and of document 02.
use Rattle.std.specs.Prelude.{ℕ, Result, Ok, Err}
use Rattle.theory.specs.Returned.{Returned, returned}
use Rattle.answers.specs.declared.Refusal.{Refusal}
use Rattle.answers.specs.declared.Refusal.TheVariants.{RecordsBroken, CoresOutOfRange, RowsOutOfRange, RowBreaksLimits, CountDiffers, NoCoreTakes, OutputTooShort, RowMisses, LineBroken, RowNotInSet}

-- what a call comes to that writes what it gives
abbrev pub Answer : Type 0
Answer = Result (Unit {0}) Refusal

-- number and row of each refusal
abbrev pub refused_with : Refusal → Returned
refused_with RecordsBroken = returned 1 0
refused_with CoresOutOfRange = returned 2 0
refused_with RowsOutOfRange = returned 3 0
refused_with (RowBreaksLimits row) = returned 4 row
refused_with CountDiffers = returned 5 0
refused_with (NoCoreTakes row) = returned 6 row
refused_with OutputTooShort = returned 7 0
refused_with (RowMisses row) = returned 8 row
refused_with (LineBroken line) = returned 9 line
refused_with RowNotInSet = returned 10 0

-- number and row of each answer, whatever an accepted call gives
abbrev pub returned_by : {A : Type 0} → Result A Refusal → Returned
returned_by (Ok given) = returned 0 0
returned_by (Err refusal) = refused_with refusal

-- its number, and its row
abbrev pub number_of : {A : Type 0} → Result A Refusal → ℕ
number_of answer = (returned_by answer).number

abbrev pub row_of : {A : Type 0} → Result A Refusal → ℕ
row_of answer = (returned_by answer).row
