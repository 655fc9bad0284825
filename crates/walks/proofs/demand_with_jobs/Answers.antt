use mathlib.Core.Path.{refl, ◌∙◌}
use Prim.Native.Nat.{◌*◌, ◌≤◌}
use native.Mathlib.Omega.{arith}
use borrow.Author.Count.{below_more}
use lib.ListN.{get_or, length-set}
use lib.Seq.{get_or-set_same, get_or-set_other}
use Rattle.demands.proofs.Asked.{none_asked, next_asked, one_more_asked}
use Rattle.walks.proofs.demand_with_jobs.Goals as goal

pub loop-h-init : goal.loop-h-init
loop-h-init c = let a = c.args in (none_asked a.row.now.c.now a.row.now.t.now a.time, refl, λ k below. absurd (omega arith))

pub overflow_mul-sum : goal.overflow_mul-sum
overflow_mul-sum c =
    let row = c.args.row.now in
    let asked : c.jobs-m.result * get_or row.c.now c.loop-h.h 0 ≤ 2_000_000 = next_asked row.small c.requires.time_bound c.loop-h.invariant.0 c.loop-h-test.true refl refl c.jobs-m.ensures in
    omega (arith, asked)

pub overflow_add-sum : goal.overflow_add-sum
overflow_add-sum c =
    let row = c.args.row.now in
    let asked : c.jobs-m.result * get_or row.c.now c.loop-h.h 0 ≤ 2_000_000 = next_asked row.small c.requires.time_bound c.loop-h.invariant.0 c.loop-h-test.true refl refl c.jobs-m.ensures in
    omega (arith, asked, row.small.few)

pub loop-h-preserved : goal.loop-h-preserved
loop-h-preserved c =
    let loop = c.loop-h in
    let m = c.jobs-m.result in (
      one_more_asked c.args.row.now.small c.requires.time_bound loop.invariant.0 c.loop-h-test.true refl refl c.jobs-m.ensures,
      length-set loop.jobs loop.h m ∙ loop.invariant.1,
      below_more _ _
          (λ k below. get_or-set_other loop.jobs loop.h k m 0 (λ e. omega arith) ∙ loop.invariant.2 k below)
          (get_or-set_same loop.jobs loop.h m 0 (omega (arith, loop.invariant.1, c.requires.c_in_bounds)) ∙ c.jobs-m.ensures),
    )
