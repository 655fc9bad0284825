-- Whether a core takes rows: they all meet, and then its core allowance, or they do not.
use Rattle.std.specs.Prelude.{ℕ, List, Option, Some, None, Result, Ok, Err}
use Rattle.theory.specs.Row.{Row}
use Rattle.theory.specs.Response.{AllMeet}
use Rattle.theory.specs.Allowance.{IsCoreAllowance}
use Rattle.raises.specs.declared.LeftOff.{LeftOff}

-- the core takes them, with this core allowance, or it does not
abbrev pub IsFit : List Row → Option ℕ → Type 0
IsFit rows (Some a) = AllMeet rows × IsCoreAllowance rows a
IsFit rows None = AllMeet rows → ⊥

-- the same by short climbs; of rows that they leave off they say nothing
abbrev pub IsShortFit : List Row → Result (Option ℕ) LeftOff → Type 0
IsShortFit rows (Ok fit) = IsFit rows fit
IsShortFit rows (Err left_off) = Unit {0}
