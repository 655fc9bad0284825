-- `put` puts row i on core m + 1: its place joins the core's, and the core's count rises by one. Under each assignment that the cores held, they hold the
-- one with row i there.
use Prim.Native.Nat.{suc, ◌<◌}
use native.Mathlib.Omega.{arith}
use lib.ListN.{length, length-set}
use Rattle.cores.proofs.Held.{held_at_most, held_put, room_on_core}
use Rattle.cores.proofs.Cores.put.Goals as goal

pub join-requires : goal.join-requires
join-requires c =
    let held = c.requires.held_without in
    (room_on_core held.3 held.1 held.2 c.args.m c.requires.m_bound c.places.result.now c.places.ensures).0

pub invariant_of-self : goal.invariant_of-self
invariant_of-self c =
    let held = c.requires.held_without.3 in
    let in_table : c.args.i < length held.assignment = omega (arith, held.one_each, c.requires.held_without.1) in
    let put = held_put held.holds c.args.m c.requires.m_bound c.args.i in_table held.on_none _ c.join.result c.places.ensures c.join.ensures.result_value in
    record { inside = λ k h. omega (arith, held_at_most put k h, length-set held.assignment c.args.i (suc c.args.m), held.one_each) }

pub returns : goal.returns
returns c n in_table held =
    held_put held.holds c.args.m c.requires.m_bound c.args.i (omega (arith, held.one_each)) held.on_none _ c.join.result c.places.ensures c.join.ensures.result_value
