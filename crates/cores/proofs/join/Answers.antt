use Rattle.cores.proofs.Joined.{joined_in_front}
use Rattle.cores.proofs.join.Goals as goal

pub returns-clause-result_value : goal.returns-clause-result_value
returns-clause-result_value c = joined_in_front c.args.places.now c.copy_from_slice.new.self _ c.put_in_order.new.places _ c.args.i c.copy_from_slice.ensures.after c.put_in_order.ensures
