-- `lines::write_listing` meets its contract: four writes, one behind another.
use mathlib.Core.Path.{sym, ◌∙◌}
use mathlib.Core.List.{[]}
use native.Mathlib.Omega.{arith}
use Rattle.rows.specs.Values.{figures_in}
use Rattle.listing.specs.Listing.{ascii, header_line}
use Rattle.listing.proofs.SystemAllowance.{system_allowance_of_lists}
use Rattle.lines.proofs.Written.{listing_written}
use Rattle.lines.proofs.write_listing.Goals as goal

pub returns : goal.returns
unfolding header_line ascii
returns c =
    let figures = c.args.figures.now in
    let header = c.write_bytes-end.ensures in
    let rows = c.write_rows-end.ensures in
    let system = c.write_bytes-end-2.ensures in
    let number = c.write_number.ensures in
    let smallest = c.smallest.ensures ∙ sym (system_allowance_of_lists figures.core.now figures.response.now figures.allowance.now figures.as_many_responses figures.as_many_allowances) in
    (listing_written [] (figures_in figures) header.0 rows.0 system.0 (rw smallest at number.0), omega (arith, c.requires, header.1, rows.1, system.1, number.1))
