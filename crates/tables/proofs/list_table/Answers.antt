-- `list_table` meets its contract: the lines are written aside first, and put into the lent bytes where they fit.
use mathlib.Core.Path.{◌≡◌, ap, ◌∙◌}
use Prim.Native.Nat.{◌≤◌}
use native.Mathlib.Omega.{arith}
use mathlib.Core.List.{◌++◌}
use lib.ListN.{length, take, drop}
use lib.Seq.{length-take-le}
use Rattle.tables.proofs.Listed.{lines_too_long, lines_put}
use Rattle.tables.proofs.Longest.{listed_some}
use Rattle.tables.proofs.list_table.Goals as goal

pub returns-then-listing-n-clause-answered : goal.returns-then-listing-n-clause-answered
returns-then-listing-n-clause-answered c =
    let text = c.write_lines-n.new.text in
    let n = c.write_lines-n.result in
    let many : length (take n text) ≡ n = length-take-le n text (omega (arith, c.write_lines-n.ensures.1, c.write_lines-n.auto.text)) in
    lines_too_long c.args.table.now c.args.listing.now (take n text) n c.write_lines-n.ensures.0 many (omega arith)

pub returns-clause-answered : goal.returns-clause-answered
returns-clause-answered c =
    let listing = c.args.listing.now in
    let text = c.write_lines-n.new.text in
    let n = c.write_lines-n.result in
    let many : length (take n text) ≡ n = length-take-le n text (omega (arith, c.write_lines-n.ensures.1, c.write_lines-n.auto.text)) in
    lines_put c.args.table.now listing (take n text) n c.write_lines-n.ensures.0 many _ (omega arith)
    (ap (λ front. front ++ drop n listing) c.copy_from_slice.ensures.after)

pub returns-clause-some : goal.returns-clause-some
returns-clause-some c =
    let text = c.write_lines-n.new.text in
    let n = c.write_lines-n.result in
    let many : length (take n text) ≡ n = length-take-le n text (omega (arith, c.write_lines-n.ensures.1, c.write_lines-n.auto.text)) in
    omega (arith, many, listed_some c.write_lines-n.ensures.0)
