-- `read_header` meets its contract: the three names, or a field that is not so.
use Rattle.std.specs.Prelude.{option_copied}
use Rattle.listing.specs.Listing.{ascii}
use Rattle.fields.specs.Found.{Named}
use Rattle.fields.proofs.Followed.{not_first, not_second}
use Rattle.fields.proofs.LineFields.{not_the_header, header_found}
use Rattle.fields.proofs.read_header.Goals as goal

pub returns-in_err-second : goal.returns-in_err-second
unfolding ascii
returns-in_err-second c =
    rw c.from_residual.ensures (not_the_header c.args.text.now (not_first (Named (ascii "wcet")) (Named (ascii "deadline")) (Named (ascii "period")) c.args.text.now c.in_err-second.ensures))

pub returns-in_err-third : goal.returns-in_err-third
unfolding ascii
returns-in_err-third c =
    rw c.from_residual-in_err-third.ensures
    (not_the_header c.args.text.now (not_second (Named (ascii "wcet")) (Named (ascii "deadline")) (Named (ascii "period")) c.in_ok-second.ensures c.in_err-third.ensures))

pub returns : goal.returns
unfolding ascii
returns c = header_found c.args.text.now c.in_ok-second.ensures c.in_ok-third.ensures (option_copied c.name_then-3.result) c.name_then-3.ensures
