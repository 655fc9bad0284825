-- `allowances_of` meets its contract: what the climbs find where none is left off are the allowances, and so are the point allowances.
use Rattle.responses.proofs.Meeting.{timed_meet}
use Rattle.figures.proofs.CoreNumbers.{allowances_of_points}
use Rattle.figures.proofs.allowances_of.Goals as goal

pub allowances_by_points-requires : goal.allowances_by_points-requires
allowances_by_points-requires c = timed_meet c.args.timed.now

pub returns : goal.returns
returns c = record {
  allowances = allowances_of_points c.args.timed.now c.allowances_by_points.result c.allowances_by_points.ensures.by_index;
  long = c.allowances_by_points.ensures.result_len;
}
