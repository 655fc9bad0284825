-- `next_record` meets its contract: each `return` is one case of the first record.
use mathlib.Core.Path.{◌≡◌, sym}
use mathlib.Core.Logic.{inl, inr}
use native.Mathlib.Omega.{arith}
use lib.ListN.{get_or}
use Rattle.std.specs.Prelude.{Ok, Err}
use Rattle.std.proofs.lemmas.Result.{err_from_is_err_and}
use Rattle.numbers.specs.declared.kind.Kind.TheVariants.{Row, End}
use Rattle.reading.proofs.Bytes.{rest_whole}
use Rattle.reading.proofs.RecordThere.{none_there, count_there, other_kind_there}
use Rattle.reading.proofs.next_record.Goals as goal

pub returns-in_default : goal.returns-in_default
returns-in_default c = none_there c.args.records.now c.args.n (omega arith)

pub returns-in_default-try_from : goal.returns-in_default-try_from
returns-in_default-try_from c =
    other_kind_there c.args.records.now c.args.n (omega arith) (λ is. c.in_default-try_from.ensures End (sym is)) (λ is. c.in_default-try_from.ensures Row (sym is))

pub returns-in_err-read_count-in-End : goal.returns-in_err-read_count-in-End
returns-in_err-read_count-in-End c =
    let is_end : get_or c.args.records.now 0 0 ≡ 4 = sym (rw c.in-End.is at c.in-Ok.ensures) in
    let p = err_from_is_err_and c.from_residual-in_err-read_count-in-End.result c.from_residual-in_err-read_count-in-End.ensures.1 in
    rw (p.1, p.2) (count_there c.args.records.now c.args.n (omega arith) (Err c.in_err-read_count-in-End.field-0.0) is_end (rw (rest_whole 1 c.args.records.now) at c.in_err-read_count-in-End.ensures))

pub returns-in_ok-read_count-in-End : goal.returns-in_ok-read_count-in-End
returns-in_ok-read_count-in-End c =
    let is_end : get_or c.args.records.now 0 0 ≡ 4 = sym (rw c.in-End.is at c.in-Ok.ensures) in
    count_there c.args.records.now c.args.n (omega arith) (Ok tt) is_end (rw (rest_whole 1 c.args.records.now) at c.in_ok-read_count-in-End.ensures)

pub returns-in-Table : goal.returns-in-Table
returns-in-Table c =
    elim c.in-Table.is [
      | inl is ↦
          let first : 1 ≡ get_or c.args.records.now 0 0 = rw is at c.in-Ok.ensures in
          other_kind_there c.args.records.now c.args.n (omega arith) (λ is_end. omega arith) (λ is_row. omega arith)
      | inr is ↦
          let first : 3 ≡ get_or c.args.records.now 0 0 = rw is at c.in-Ok.ensures in
          other_kind_there c.args.records.now c.args.n (omega arith) (λ is_end. omega arith) (λ is_row. omega arith)
    ]
