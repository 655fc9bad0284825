-- `short_allowances` finds the allowance of each row by rank. The loop's invariant: the first p rows by rank have theirs.
use Rattle.theory.specs.Allowance.{IsAllowance}
use Rattle.rows.specs.Values.{rows_in}
use Rattle.climbs.proofs.FilledByRank.{FilledByRank}
use Rattle.trials.proofs.short_allowances.Given as goal

abbrev pub invariant-loop-p : goal.invariant-loop-p
invariant-loop-p l = let rows = l.timed.set.now.rows in FilledByRank rows.d.now (IsAllowance (rows_in rows)) l.allowance l.p
