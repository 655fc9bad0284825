use mathlib.Core.Path.{◌∙◌}
use Rattle.raises.proofs.Raised.{raised_mono}
use Rattle.raises.proofs.Rounds.{rounds_go_on}
use Rattle.raises.proofs.climb_on.Goals as goal

pub loop-round-preserved : goal.loop-round-preserved
loop-round-preserved c =
    let row = c.args.row.now in
    let raise = c.args.raise.now in
    rw c.raised_load_at-next.ensures.0
    (rounds_go_on c.loop-round.invariant (raised_mono row.own row.c.now row.t.now raise.period raise.more)
    (λ e. c.if-next-at.false (c.raised_load_at-next.ensures.0 ∙ e)))
