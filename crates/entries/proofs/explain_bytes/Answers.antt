-- `explain_bytes` meets its contract: bytes that are no rows are refusal 3, others are explained as the numbers that they are.
use mathlib.Core.Path.{◌≡◌}
use borrow.Author.Rules.{rules}
use Rattle.std.proofs.Common.{Err}
use Rattle.entries.proofs.Explained.{unread_explained, read_explained}
use Rattle.entries.proofs.explain_bytes.Goals as goal

pub returns-in_err-lists : goal.returns-in_err-lists
returns-in_err-lists c =
    let same : c.from_residual.result ≡ Err c.in_err-lists.field-0.0 = search rules in
    rw same (unread_explained c.in_err-lists.ensures)

pub returns : goal.returns
returns c = read_explained c.in_ok-lists.ensures c.explain.ensures
