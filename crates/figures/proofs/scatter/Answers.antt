use mathlib.Core.Path.{sym, ◌∙◌}
use Rattle.std.proofs.Common.{rules}
use Rattle.std.proofs.lemmas.Slice.Zip.{Zip-more, either_empty_from_Zip}
use Rattle.figures.proofs.Scattered.{scattered_next, scattered_done}
use Rattle.figures.proofs.scatter.Goals as goal

pub loop-place-preserved : goal.loop-place-preserved
loop-place-preserved c =
    let more = Zip-more c.loop-place.place-iterator c.next.new.self c.next.result (c.in-Some.field-0-0, c.in-Some.field-0-1) c.in-Some.is c.next.ensures.steps in
    (search rules, scattered_next c.loop-place.list _ _ _ _ more.0 more.1 ∙ c.loop-place.invariant.1)

pub returns : goal.returns
returns c =
    sym (scattered_done c.loop-place.list _ _ (either_empty_from_Zip c.loop-place.place-iterator c.next.new.self c.next.result c.in-None.is c.next.ensures.steps))
    ∙ c.loop-place.invariant.1
