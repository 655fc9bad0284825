-- What a call of a service returns: document 01, "Refusal numbers".
use Rattle.std.specs.Prelude.{ℕ}

-- a number, 0 where the call is accepted and else the refusal's; and a row, numbered from 1, or 0 where none is named
pub record Returned : Type 0 where
  pub number : ℕ
  pub row : ℕ

-- this number and this row
abbrev pub returned : ℕ → ℕ → Returned
returned number row = record { number = number; row = row }
