-- What the bench program has read.
use Rattle.std.specs.Prelude.{List, ℕ, ◌≤◌, length, Result, IfOk}

-- no more bytes were read than the buffer has; which they are, no contract of a read can say
abbrev pub InFront : {E : Type 0} → Result ℕ E → List ℕ → Type 0
InFront read buffer = IfOk read (λ n. n ≤ length buffer)
