use mathlib.Core.Path.{refl}
use Rattle.std.proofs.Common.{rules}
use Rattle.cores.proofs.Held.{held_none}
use Rattle.cores.proofs.Cores.with_no_rows.Goals as goal

pub returns : goal.returns
returns c n = held_none n _ _ refl (search rules)
