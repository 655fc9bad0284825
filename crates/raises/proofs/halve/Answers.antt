use native.Mathlib.Omega.{arith}
use Rattle.raises.proofs.Halving.{halving_upper}
use Rattle.raises.proofs.halve.Goals as goal

pub loop-low-preserved-in-Some : goal.loop-low-preserved-in-Some
loop-low-preserved-in-Some c =
    let row = c.args.row.now in
    halving_upper row.own row.c.now row.t.now c.args.most.now.period row.limit c.args.most.now.more c.loop-low.invariant (omega arith) c.in-Some.response
    (rw c.in-Some.is at c.in_ok-response.ensures)
