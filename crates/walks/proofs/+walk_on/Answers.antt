use Prim.Native.Nat.{◌-◌, ◌≤◌}
use native.Mathlib.Omega.{arith}
use lib.ListN.{get_or}
use Rattle.theory.proofs.Ceil.{multiple_below}
use Rattle.walks.proofs.Level.{nothing_lifted, start_lifted, time_lifted, both_lifted}
use Rattle.walks.proofs.Range.{still_in_range}
use Rattle.walks.proofs.+walk_on.Goals as goal

pub returns-then-time-last : goal.returns-then-time-last
returns-then-time-last t c = (omega arith, nothing_lifted _ _ _ _ _ _ (omega arith) c.args.best.now)

pub returns-then-level-eq0 : goal.returns-then-level-eq0
returns-then-level-eq0 t c =
    let a = c.args in
    (omega arith, start_lifted _ _ _ _ _ _ (omega arith) c.if-level-eq0.true a.best.now c.visit.new.best c.visit.ensures)

pub returns-then-stop-eq0 : goal.returns-then-stop-eq0
returns-then-stop-eq0 t c =
    let a = c.args in
    let multiple = c.last_multiple-stop in (
      c.walk_on.ensures.0,
      time_lifted _ _ _ _ _ _ c.args.row.now.small.as_many (a.level - 1) (omega arith) multiple.result multiple.ensures c.if-stop-eq0.true a.best.now c.walk_on.new.best c.walk_on.ensures.1,
    )

pub walk_on-requires-2 : goal.walk_on-requires-2
walk_on-requires-2 t c =
    let a = c.args in
    let first = c.walk_on-reached in
    let by_million : c.last_multiple-stop.result ≤ 1_000_000 = omega (arith, c.last_multiple-stop.ensures, multiple_below (get_or a.row.now.t.now (a.level - 1) 0) a.time) in
    (omega arith, (omega arith, ((omega arith, omega arith), (omega arith, still_in_range _ _ _ _ _ _ by_million a.best.now first.new.best first.ensures.1 c.requires.all_in_range))))

pub returns : goal.returns
returns t c =
    let a = c.args in
    let multiple = c.last_multiple-stop in
    let first = c.walk_on-reached in
    let second = c.walk_on-2 in (
      omega (arith, first.ensures.0, second.ensures.0, multiple.ensures, multiple_below (get_or a.row.now.t.now (a.level - 1) 0) a.time, c.if-time-last.false),
      both_lifted _ _ _ _ _ _ c.args.row.now.small.as_many (a.level - 1) (omega (arith, c.if-level-eq0.false)) multiple.result multiple.ensures (omega (arith, c.if-stop-eq0.false)) first.result first.ensures.0 a.best.now first.new.best second.new.best first.ensures.1 second.ensures.1,
    )
