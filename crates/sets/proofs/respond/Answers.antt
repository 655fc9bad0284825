-- `sets::respond` meets its contract: its answer is the verdict on the response times.
use mathlib.Core.Path.{ap}
use native.Mathlib.Omega.{arith}
use Rattle.climbs.specs.declared.ranked_set.RankedSet.{RankedSet}
use Rattle.sets.specs.Stages.{rows_in_time}
use Rattle.sets.proofs.Stages.{misses_in_set, miss_refused}
use Rattle.sets.proofs.respond.Goals as goal

pub overflow_cast-result : goal.overflow_cast-result
overflow_cast-result c =
    let few = misses_in_set c.args.set.now.rows (rw c.in-Err.is at c.responses_of.ensures) in
    omega (arith, few)

pub overflow_add-result : goal.overflow_add-result
overflow_add-result c =
    let few = misses_in_set c.args.set.now.rows (rw c.in-Err.is at c.responses_of.ensures) in
    omega (arith, few)

pub returns-in-Ok : goal.returns-in-Ok
returns-in-Ok c =
    let on_time = rw c.in-Ok.is at c.responses_of.ensures in
    rows_in_time _ (ap (λ (set : RankedSet). set.rows) on_time.0)

pub returns-in-Err : goal.returns-in-Err
returns-in-Err c = miss_refused c.args.set.now.rows (rw c.in-Err.is at c.responses_of.ensures) (omega arith)
