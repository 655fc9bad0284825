-- `refusals::first_broken` meets its contract: the first place whose row does not keep the limits.
use mathlib.Core.Path.{◌≡◌}
use mathlib.Core.Bool.{true, false}
use borrow.Author.Rules.{rules}
use lib.ListN.{get_or}
use Rattle.std.proofs.lemmas.Iterator.{first_from_Range}
use Rattle.theory.specs.Row.{row_at, within_limits, WithinLimits}
use Rattle.rows.specs.Values.{rows_listed}
use Rattle.refusals.proofs.Rows.{passing_row, failing_row, first_found}
use Rattle.refusals.proofs.first_broken.Goals as goal

pub returns : goal.returns
returns c =
    let lists = c.args.rows.now in
    first_found lists c.find.result
    (first_from_Range _ _ _ c.find.result (λ k. WithinLimits (row_at (rows_listed lists) k) → ⊥) (λ k. WithinLimits (row_at (rows_listed lists) k)) c.find.ensures.ran
    (λ x q called. let fails : within_limits (record { C = get_or lists.c.now x 0; D = get_or lists.d.now x 0; T = get_or lists.t.now x 0 }) ≡ false = search rules in failing_row lists x fails)
    (λ x q called. let passes : within_limits (record { C = get_or lists.c.now x 0; D = get_or lists.d.now x 0; T = get_or lists.t.now x 0 }) ≡ true = search rules in (search rules, passing_row lists x passes)))
