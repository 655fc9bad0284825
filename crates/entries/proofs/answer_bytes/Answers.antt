-- `answer_bytes` meets its contract: bytes that are no rows are refusal 3, others are answered as the numbers that they are.
use mathlib.Core.Path.{◌≡◌}
use native.Mathlib.Omega.{arith}
use borrow.Author.Rules.{rules}
use Rattle.std.proofs.Common.{Err}
use Rattle.entries.proofs.Bytes.{unread_answered, read_answered}
use Rattle.entries.proofs.answer_bytes.Goals as goal

pub returns-in_err-lists : goal.returns-in_err-lists
returns-in_err-lists g c =
    let same : c.from_residual.result ≡ Err c.in_err-lists.field-0.0 = search rules in
    rw same (unread_answered _ _ (λ k h. omega (arith, c.type_inv.responses k)) (λ k h. omega (arith, c.type_inv.allowances k)) c.in_err-lists.ensures)

pub returns : goal.returns
returns g c = read_answered c.in_ok-lists.ensures c.answer_in_bytes.ensures
