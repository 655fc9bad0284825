-- `line_number` meets its contract: a line that does not fit gets the last number.
use mathlib.Core.Path.{◌≡◌, ◌∙◌}
use Prim.Native.Nat.{ℕ, ◌<◌}
use native.Mathlib.Omega.{arith}
use Rattle.std.specs.Prelude.{Result, Ok, Err, OkIff}
use Rattle.std.specs.Result.{result_unwrap_or}
use Rattle.texts.specs.Table.{in_rows_place}
use Rattle.parsing.proofs.line_number.Goals as goal

fits : {E : Type 0} (found : Result ℕ E) (line : ℕ) → OkIff found (line < 4294967296) line → result_unwrap_or found 4294967295 ≡ in_rows_place line
unfolding in_rows_place
fits (Ok number) line found = omega arith
fits (Err error) line found = omega arith

pub returns : goal.returns
returns c = c.unwrap_or.ensures ∙ fits c.try_from.result c.args.line c.try_from.ensures
