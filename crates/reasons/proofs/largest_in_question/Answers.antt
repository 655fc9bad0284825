-- `largest_in_question` gives the allowance that the trial finds, or the row's distance to its deadline.
use Rattle.reasons.proofs.Most.{found_is_most}
use Rattle.reasons.proofs.largest_in_question.Goals as goal

pub returns : goal.returns
returns c = rw c.unwrap_or.ensures (found_is_most c.requires.points_by_rank c.args.p c.requires.p_in_bounds 300 c.allowance_at.result c.allowance_at.ensures)
