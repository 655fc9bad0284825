use mathlib.Core.Path.{refl}
use native.Mathlib.Omega.{arith}
use Rattle.std.proofs.Common.{rules, length-append, add-one}
use Rattle.std.proofs.lemmas.Slice.Zip.{zip_turn}
use Rattle.leaps.proofs.Leaps.{periods_positive, leap_begins, some_is_left, leap_more, leap_keeps_start}
use Rattle.leaps.proofs.leap.Goals as goal

pub lean-leap-requires-clause-some_left : goal.lean-leap-requires-clause-some_left
lean-leap-requires-clause-some_left c =
    rw c.from.ensures (some_is_left c.args.row.now c.args.raise.now (leap_begins c.args.row.now c.args.raise.now c.raised_load_at.ensures.0) (omega arith) refl refl c.requires.runs)

pub loop-c-init : goal.loop-c-init
loop-c-init c =
    leap_more c.args.row.now c.args.raise.now (leap_begins c.args.row.now c.args.raise.now c.raised_load_at.ensures.0) (omega arith) refl refl (rw c.from.ensures at c.lean-leap.ensures)

pub lean-leap-requires-in-loop-c : goal.lean-leap-requires-in-loop-c
lean-leap-requires-in-loop-c c =
    let row = c.args.row.now in
    let turn = zip_turn row.c.now row.t.now _ _ _ c.next.new.self _ (search rules) (search rules) c.loop-c.yielded_by _ c.in-Some.is c.next.ensures.steps in
    let small = row.small in
    record {
      le_t = (omega (arith, turn.3 0, small.period_positive _ turn.0), omega (arith, turn.3 0, small.by_million _ turn.0), omega (arith, turn.2 0, turn.3 0, small.by_period _ turn.0), omega arith);
      some_left = some_is_left row c.args.raise.now c.loop-c.invariant (omega (arith, turn.0)) (turn.2 0) (turn.3 0) c.requires.runs;
    }

pub loop-c-preserved : goal.loop-c-preserved
loop-c-preserved c =
    let row = c.args.row.now in
    let turn = zip_turn row.c.now row.t.now _ _ _ c.next.new.self _ (search rules) (search rules) c.loop-c.yielded_by _ c.in-Some.is c.next.ensures.steps in
    rw (length-append, add-one) (leap_more row c.args.raise.now c.loop-c.invariant (omega (arith, turn.0)) (turn.2 0) (turn.3 0) c.lean-leap-in-loop-c.ensures)

pub returns : goal.returns
returns c =
    let row = c.args.row.now in
    let raise = c.args.raise.now in (
      leap_keeps_start row.own row.c.now row.t.now raise.period raise.more c.requires.runs c.requires.start c.loop-c.invariant (periods_positive row raise) c.within.ensures.later
          (λ S after asked. c.within.ensures.in_question S after (c.least_in_question.ensures S asked)),
      c.within.ensures.later,
    )
