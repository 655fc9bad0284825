-- A refusal's number is not 0.
use mathlib.Core.Path.{◌≡◌}
use native.Mathlib.Omega.{arith}
use Rattle.answers.specs.declared.Refusal.{Refusal}
use Rattle.answers.specs.declared.Refusal.TheVariants.{RecordsBroken, CoresOutOfRange, RowsOutOfRange, RowBreaksLimits, CountDiffers, NoCoreTakes, OutputTooShort, RowMisses, LineBroken, RowNotInSet}
use Rattle.answers.specs.Answer.{refused_with}

pub number_not_0 : (refusal : Refusal) → (refused_with refusal).number ≡ 0 → ⊥
number_not_0 RecordsBroken none = omega arith
number_not_0 CoresOutOfRange none = omega arith
number_not_0 RowsOutOfRange none = omega arith
number_not_0 (RowBreaksLimits row) none = omega arith
number_not_0 CountDiffers none = omega arith
number_not_0 (NoCoreTakes row) none = omega arith
number_not_0 OutputTooShort none = omega arith
number_not_0 (RowMisses row) none = omega arith
number_not_0 (LineBroken line) none = omega arith
number_not_0 RowNotInSet none = omega arith
