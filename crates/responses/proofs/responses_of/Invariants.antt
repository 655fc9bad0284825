-- `responses::responses_of` meets its contract. The loop's invariant: the first j rows by rank have their response times, and `before` is that of the last of
-- them.
use Rattle.responses.proofs.Turn.{TurnsTo}
use Rattle.responses.proofs.responses_of.Given as goal

abbrev pub invariant-loop-j : goal.invariant-loop-j
invariant-loop-j l = TurnsTo l.fn.set l.by_rank l.response l.before l.j
