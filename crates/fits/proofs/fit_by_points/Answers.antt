-- `fits::fit_by_points` meets its contract: the smallest point allowance is the fit, as a number of 32 bits, or none where it is no such number.
use Rattle.std.proofs.Common.{unsigned_abs}
use Rattle.std.specs.Result.{OkIff}
use Rattle.std.specs.Int.{FitsUnsignedBits}
use Rattle.walks.proofs.Held.{held_as_it_is}
use lib.IntN.{ℤ}
use mathlib.Core.Path.{subst}
use Prim.Native.Nat.{◌≤◌}
use native.Mathlib.Omega.{arith}
use lib.ListN.{length}
use Rattle.rows.specs.Values.{rows_in}
use Rattle.theory.proofs.CoreAllowance.{IsCorePointAllowance}
use Rattle.fits.proofs.SmallestOf.{smallest_of_front}
use Rattle.fits.proofs.ByPoints.{core_points, fit_of_least}
use Rattle.fits.proofs.fit_by_points.Goals as goal

pub returns : goal.returns
returns c =
    let rows = c.args.set.now.rows in
    let least : ℤ = c.smallest-least.result in
    let long : length rows.c.now ≤ length c.point_allowances-allowed.result = omega (arith, c.point_allowances-allowed.ensures.result_len, rows.shaped.no_25th) in
    let core-of : IsCorePointAllowance (rows_in rows) least = core_points rows.c.now rows.d.now rows.t.now rows.shaped c.point_allowances-allowed.ensures.by_index (smallest_of_front _ _ long c.smallest-least.ensures) in
    let number : OkIff c.try_from.result (FitsUnsignedBits 32 least) (unsigned_abs least) = subst (λ (z : ℤ). OkIff c.try_from.result (FitsUnsignedBits 32 z) (unsigned_abs z)) (held_as_it_is least c.smallest-least.type_inv) c.try_from.ensures in
    rw c.ok.ensures.value (fit_of_least rows.within core-of c.try_from.result number)
