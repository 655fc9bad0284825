-- `write_text` meets its contract: the header, and the lines behind it.
use mathlib.Core.List.{[]}
use native.Mathlib.Omega.{arith}
use Rattle.rows.specs.Values.{rows_listed, figures_in}
use Rattle.listing.specs.Listing.{ascii}
use Rattle.texts.specs.Text.{names}
use Rattle.texts.specs.Forms.{joined}
use Rattle.texts.specs.Columns.{line_of, all_names}
use Rattle.columns.proofs.Written.{text_written}
use Rattle.columns.proofs.write_text.Goals as goal

pub returns : goal.returns
unfolding joined line_of all_names names ascii
returns c =
    let args = c.args in
    let header = c.write_bytes-end.ensures in
    let rows = c.write_lines.ensures in
    (text_written [] (rows_listed args.rows.now) (figures_in args.figures.now) header.0 rows.0, omega (arith, c.requires, header.1, rows.1))
