-- The load of a row and of a raised one (document 01, "Allowance"), as the code's values have them.
use Rattle.std.specs.Prelude.{ℕ, ◌+◌, ◌*◌, List}
use Rattle.theory.specs.Response.{ceil}
use Rattle.demands.specs.Levels.{load_of}
use Rattle.demands.specs.declared.ranked.RankedRow.{RankedRow}
use Rattle.demands.specs.declared.ranked.Raise.{Raise}

-- the load of a row with its own time and these rows above it, and a more for each job of a period
abbrev pub raised_load : ℕ → List ℕ → List ℕ → ℕ → ℕ → ℕ → ℕ
raised_load own cs ts period a t = load_of own cs ts t + a * ceil t period

-- the load of a row
abbrev pub load_in : RankedRow → ℕ → ℕ
load_in row = load_of row.own row.c.now row.t.now

-- the load of a row with a raise
abbrev pub raised_load_in : RankedRow → Raise → ℕ → ℕ
raised_load_in row raise = raised_load row.own row.c.now row.t.now raise.period raise.more
