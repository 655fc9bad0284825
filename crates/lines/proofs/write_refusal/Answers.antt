-- `lines::write_refusal` meets its contract: four writes, one behind another.
use mathlib.Core.List.{[]}
use native.Mathlib.Omega.{arith}
use Rattle.listing.specs.Listing.{ascii}
use Rattle.lines.proofs.Written.{refusal_written}
use Rattle.lines.proofs.write_refusal.Goals as goal

pub returns : goal.returns
unfolding ascii
returns c =
    let refused = c.write_bytes-end.ensures in
    let number = c.write_number-end.ensures in
    let row = c.write_bytes-end-2.ensures in
    let row_number = c.write_number.ensures in (
      refusal_written [] _ _ refused.0 (rw c.number_of.ensures at number.0) row.0 (rw c.row_of.ensures at row_number.0),
      omega (arith, refused.1, number.1, row.1, row_number.1),
    )
