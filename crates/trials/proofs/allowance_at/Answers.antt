use Prim.Native.Nat.{◌-◌}
use native.Mathlib.Omega.{arith}
use Rattle.trials.proofs.Search.{counted_limits, searching_begins, searching_lowers}
use Rattle.trials.proofs.allowance_at.Goals as goal

pub loop-j-init : goal.loop-j-init
loop-j-init c = searching_begins c.args.by_rank.now.in_time c.args.p c.requires

pub invariant_of-most : goal.invariant_of-most
invariant_of-most c =
    let counted = counted_limits c.args.by_rank.now.in_time c.args.p c.requires (c.loop-j.j - 1) in
    rw c.counted_by.ensures (record { in_range = (omega (arith, c.loop-j.invariant.up_to, counted.0), counted.1, counted.2) })

pub loop-j-preserved : goal.loop-j-preserved
loop-j-preserved c =
    let row = c.row_at.ensures in
    searching_lowers c.loop-j.invariant c.in_ok-allowance.allowance (omega arith)
    (rw (row.own, row.executions_above, row.periods_above, row.limit, c.counted_by.ensures) at c.in_ok-allowance.ensures)
