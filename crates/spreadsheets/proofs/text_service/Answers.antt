-- `text_service` meets its contract: the refusal of reading, the refusal of certifying, or the sheet, which is written aside and put into the lent bytes where it fits.
use mathlib.Core.Path.{◌≡◌, sym, ap, ◌∙◌}
use Prim.Native.Nat.{ℕ}
use mathlib.Core.List.{List, ◌++◌}
use native.Mathlib.Omega.{arith}
use lib.ListN.{length, take, drop}
use lib.Seq.{length-take-le}
use Rattle.std.proofs.lemmas.Result.{err_from_is_err_and}
use Rattle.certifying.proofs.Given.{given_certified, given_many}
use Rattle.service.specs.Text.{TextAnswered}
use Rattle.spreadsheets.proofs.Stages.{refusal_answered, sheet_too_long, sheet_put}
use Rattle.spreadsheets.proofs.text_service.Goals as goal

pub returns-in_err-table : goal.returns-in_err-table
returns-in_err-table c = let p = err_from_is_err_and c.from_residual.result c.from_residual.ensures.1 in rw (p.1, p.2) (TextAnswered.not_a_table _ _ c.in_err-table.ensures)

pub returns-in_err-certificate : goal.returns-in_err-certificate
returns-in_err-certificate c =
    let p = err_from_is_err_and c.from_residual-in_err-certificate.result c.from_residual-in_err-certificate.ensures.1 in
    rw (p.1, p.2) (refusal_answered c.args.cores c.args.text.now c.args.lent.now c.in_ok-table.table c.in_ok-table.ensures c.in_err-certificate.ensures)

pub write_text-length-requires-clause-as_many : goal.write_text-length-requires-clause-as_many
write_text-length-requires-clause-as_many c =
    let given = c.figures.ensures in
    let many = given_many c.in_ok-table.table c.in_ok-certificate.certificate c.figures.result c.in_ok-certificate.ensures given.core given.response given.allowance in
    let held = c.in_ok-table.table.held in
    let rows : length c.lists.result.c.now ≡ held.n = rw (c.lists.ensures.c, c.rows-rows.ensures.c) (length-take-le held.n held.c (omega arith)) in
    (omega (arith, rows), many ∙ sym rows)

pub returns-then-lent-length : goal.returns-then-lent-length
returns-then-lent-length c =
    let given = c.figures.ensures in
    let certified = given_certified c.in_ok-table.table c.in_ok-certificate.certificate c.figures.result c.in_ok-certificate.ensures given.core given.response given.allowance in
    let columns = c.write_text-length.new.text in
    let length_is = c.write_text-length.result in
    let sheet = rw (c.lists.ensures.c, c.lists.ensures.d, c.lists.ensures.t, c.rows-rows.ensures.c, c.rows-rows.ensures.d, c.rows-rows.ensures.t) at c.write_text-length.ensures.0 in
    let as_long : length (take length_is columns) ≡ length_is = length-take-le length_is columns (omega (arith, c.write_text-length.ensures.1, c.write_text-length.auto.text)) in
    sheet_too_long c.args.cores c.args.text.now c.args.lent.now c.in_ok-table.table c.in_ok-table.ensures certified (take length_is columns) sheet length_is (sym as_long)
    c.if-lent-length.true

pub returns : goal.returns
returns c =
    let given = c.figures.ensures in
    let certified = given_certified c.in_ok-table.table c.in_ok-certificate.certificate c.figures.result c.in_ok-certificate.ensures given.core given.response given.allowance in
    let columns = c.write_text-length.new.text in
    let length_is = c.write_text-length.result in
    let sheet = rw (c.lists.ensures.c, c.lists.ensures.d, c.lists.ensures.t, c.rows-rows.ensures.c, c.rows-rows.ensures.d, c.rows-rows.ensures.t) at c.write_text-length.ensures.0 in
    let as_long : length (take length_is columns) ≡ length_is = length-take-le length_is columns (omega (arith, c.write_text-length.ensures.1, c.write_text-length.auto.text)) in
    sheet_put c.args.cores c.args.text.now c.args.lent.now c.in_ok-table.table c.in_ok-table.ensures certified (take length_is columns) sheet length_is (sym as_long)
    c.if-lent-length.false _ (ap (λ (front : List ℕ). front ++ drop length_is c.args.lent.now) c.copy_from_slice.ensures.after)
