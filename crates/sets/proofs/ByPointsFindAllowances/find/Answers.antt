-- `ByPoints::find` meets its contract: rows that respond in time meet, which the points ask for.
use Rattle.responses.proofs.Meeting.{timed_meet}
use Rattle.sets.proofs.ByPointsFindAllowances.find.Goals as goal

pub allowances_by_points-requires : goal.allowances_by_points-requires
allowances_by_points-requires c = timed_meet c.args.timed.now
