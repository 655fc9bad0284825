-- `write_figures` meets its contract.
use mathlib.Core.Path.{refl}
use Prim.Native.Nat.{◌+◌}
use mathlib.Core.List.{[], ◌∷◌}
use native.Mathlib.Omega.{arith}
use Rattle.records.specs.Number.{four_bytes}
use Rattle.reports.proofs.Written.{three_written}
use Rattle.reports.proofs.write_figures.Goals as goal

pub returns : goal.returns
unfolding four_bytes
returns c =
    let at = c.args.at in
    let figures = c.args.figures in
    three_written c.args.report.now c.write_kind.new.report c.put_number.new.bytes c.put_number-2.new.bytes
    at (at + 2) (at + 6)
    (3 ∷ figures.core ∷ []) (four_bytes figures.response) (four_bytes figures.allowance)
    (omega (arith, c.requires.0)) refl (omega arith)
    c.write_kind.ensures c.put_number.ensures c.put_number-2.ensures
