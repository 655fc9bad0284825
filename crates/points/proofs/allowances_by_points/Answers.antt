-- `points::allowances_by_points` meets its contract: the allowances of a set that is on time are small.
use mathlib.Core.Path.{sym, subst}
use Prim.Native.Nat.{◌<◌}
use native.Mathlib.Omega.{arith}
use lib.IntN.{pos}
use lib.ListN.{length}
use lib.Seq.{get_or-take, length-take-le}
use Rattle.climbs.proofs.InLists.{in_rows}
use Rattle.points.specs.Bounds.{IsSmall}
use Rattle.points.proofs.Small.{point_allowance_small}
use Rattle.points.proofs.allowances_by_points.Goals as goal

pub as_numbers-requires-clause-by_index : goal.as_numbers-requires-clause-by_index
as_numbers-requires-clause-by_index c =
    let rows = c.args.set.now.rows in
    let signed = c.point_allowances-signed in
    λ i h.
    let inside : i < length rows.c.now = omega (arith, h, length-take-le (length rows.c.now) signed.result (omega (arith, signed.ensures.result_len, rows.shaped.no_25th))) in
    subst IsSmall (sym (get_or-take (length rows.c.now) signed.result i (pos 0) inside))
    (point_allowance_small _ rows.within c.requires i (in_rows rows.c.now rows.d.now rows.t.now rows.shaped inside) _ (signed.ensures.by_index i inside))
