use Rattle.std.proofs.Common.{rules, ◌≤◌, ◌*◌, length-append, length, take, ◌≡◌, ◌∙◌}
use lib.Seq.{take_all}
use native.Mathlib.Omega.{arith}
use Rattle.std.proofs.lemmas.Slice.Zip.{zip_turn}
use Rattle.demands.proofs.Asked.{none_asked, next_asked, one_more_asked}
use Rattle.demands.proofs.demand.Goals as goal

pub loop-execution-init : goal.loop-execution-init
loop-execution-init c = let a = c.args in none_asked a.c.now a.t.now a.time

pub overflow_mul-sum : goal.overflow_mul-sum
overflow_mul-sum c =
    let second : c.into_iter-execution-iterator.result.b.rest.now ≡ take (length c.args.c.now) c.args.t.now = search rules in
    let turn = zip_turn c.args.c.now c.args.t.now _ _ _ c.next.new.self _ (search rules) (second ∙ take_all _ _ (omega (arith, c.requires.small.as_many))) c.loop-execution.yielded_by _ c.in-Some.is c.next.ensures.steps in
    let asked : c.jobs.result * c.in-Some.execution.now ≤ 2_000_000 = next_asked c.requires.small c.requires.time_bound c.loop-execution.invariant turn.0 (turn.2 0) (turn.3 0) c.jobs.ensures in
    omega (arith, asked)

pub overflow_add-sum : goal.overflow_add-sum
overflow_add-sum c =
    let second : c.into_iter-execution-iterator.result.b.rest.now ≡ take (length c.args.c.now) c.args.t.now = search rules in
    let turn = zip_turn c.args.c.now c.args.t.now _ _ _ c.next.new.self _ (search rules) (second ∙ take_all _ _ (omega (arith, c.requires.small.as_many))) c.loop-execution.yielded_by _ c.in-Some.is c.next.ensures.steps in
    let asked : c.jobs.result * c.in-Some.execution.now ≤ 2_000_000 = next_asked c.requires.small c.requires.time_bound c.loop-execution.invariant turn.0 (turn.2 0) (turn.3 0) c.jobs.ensures in
    omega (arith, asked, turn.0, c.requires.small.few)

pub loop-execution-preserved : goal.loop-execution-preserved
loop-execution-preserved c =
    let second : c.into_iter-execution-iterator.result.b.rest.now ≡ take (length c.args.c.now) c.args.t.now = search rules in
    let turn = zip_turn c.args.c.now c.args.t.now _ _ _ c.next.new.self _ (search rules) (second ∙ take_all _ _ (omega (arith, c.requires.small.as_many))) c.loop-execution.yielded_by _ c.in-Some.is c.next.ensures.steps in
    rw length-append (one_more_asked c.requires.small c.requires.time_bound c.loop-execution.invariant turn.0 (turn.2 0) (turn.3 0) c.jobs.ensures)
