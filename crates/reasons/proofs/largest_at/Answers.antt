-- `largest_at` gives the quotient where the point has room for the least raise.
use Prim.Native.Nat.{◌<◌}
use native.Mathlib.Omega.{arith}
use Rattle.theory.proofs.Ceil.{ceil_positive}
use Rattle.reasons.proofs.Quotient.{largest_quotient}
use Rattle.reasons.proofs.largest_at.Goals.{After-jobs-jobs}
use Rattle.reasons.proofs.largest_at.Goals as goal

-- some job of the period is counted
some_job : (c : After-jobs-jobs) → 0 < c.jobs-jobs.result
some_job c = rw c.jobs-jobs.ensures (ceil_positive c.args.p (omega arith) c.requires.0)

pub nonzero_div-result : goal.nonzero_div-result
nonzero_div-result c = some_job (goal.at.nonzero_div-result c).After-jobs-jobs

pub returns-then-load-least : goal.returns-then-load-least
returns-then-load-least c =
    let row = c.args.row.now in
    largest_quotient row.own row.c.now row.t.now c.args.least.now.period c.args.p c.args.least.now.more _ _ c.load_at-load.ensures.0 c.jobs-jobs.ensures (some_job (goal.at.returns-then-load-least c).After-jobs-jobs) c.if-load-least.true
