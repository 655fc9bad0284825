use mathlib.Core.Path.{◌≡◌, ap, ◌∙◌}
use Prim.Native.Nat.{◌<◌}
use native.Mathlib.Nat.{le_refl}
use native.Mathlib.Omega.{arith}
use lib.IntN.{pos}
use lib.ListN.{length, get_or, length-append}
use Rattle.std.proofs.Common.{rules}
use Rattle.std.proofs.lemmas.Slice.Zip.{zip_turn, zip_end}
use Rattle.theory.specs.Moved.{smaller}
use Rattle.theory.proofs.At.{each_at}
use Rattle.walks.proofs.Held.{smaller_held}
use Rattle.points.proofs.Lowered.{LoweredUpTo, one_more_lowered, all_lowered}
use Rattle.points.proofs.lower.Goals as goal

pub loop-i-preserved : goal.loop-i-preserved
loop-i-preserved c =
    let a = c.args in
    let turn = zip_turn a.places.now a.best.now _ _ _ c.next.new.self _ (search rules) (search rules) c.loop-i.yielded_by _ c.in-Some.is c.next.ensures.steps in
    let inside : c.in-Some.field-0-0.now < length a.allowed.now = omega (arith, turn.2 0, each_at (λ h. h < length c.args.allowed.now) c.args.places.now c.requires.all.0 (length c.loop-i.yielded) turn.0) in
    let smaller-stored = smaller_held c.min.ensures.value (search rules) (search rules) (search rules) in
    rw length-append (one_more_lowered c.loop-i.invariant inside (smaller-stored ∙ ap (smaller (get_or c.loop-i.allowed c.in-Some.field-0-0.now (pos 0))) (turn.3 (pos 0))) turn.0 (turn.2 0))

pub returns : goal.returns
returns c =
    let a = c.args in
    let last : length c.loop-i.yielded ≡ length a.places.now = omega (arith, zip_end a.places.now a.best.now _ _ _ c.next.new.self _ (search rules) (search rules) c.loop-i.yielded_by c.in-None.is c.next.ensures.steps) in
    let all : LoweredUpTo a.best.now a.places.now (length a.places.now) a.allowed.now c.loop-i.allowed = rw last at c.loop-i.invariant in
    all_lowered all c.requires.all.1 (smaller_held c.min-2.ensures.value (search rules) (search rules) (search rules)) (le_refl (length a.places.now))
