use mathlib.Core.Path.{◌≡◌, refl, sym, ap, ◌∙◌}
use Prim.Native.Nat.{ℕ, ◌+◌}
use native.Mathlib.Omega.{arith}
use native.Mathlib.Numerals.{add-one}
use mathlib.Core.List.{List, ◌++◌}
use lib.ListN.{length, get_or, take, drop, set, length-set}
use lib.Seq.{paste, paste-zero, paste-suc, take-length}
use Rattle.numbers.proofs.put_bytes.Goals as goal

pub loop-j-init : goal.loop-j-init
loop-j-init c = (refl, paste-zero c.args.bytes.now c.args.at c.args.part.now)

pub bounds-bytes-at : goal.bounds-bytes-at
bounds-bytes-at c = omega (arith, c.loop-j.invariant.0)

pub loop-j-preserved : goal.loop-j-preserved
loop-j-preserved c =
    let bytes = c.args.bytes.now in
    let at = c.args.at in
    let part = c.args.part.now in
    let j = c.loop-j.j in
    let inv = c.loop-j.invariant in
    let byte = get_or part j 0 in (
      length-set c.loop-j.bytes _ _ ∙ inv.0,
      ap (λ (l : List ℕ). set l (at + j) byte) inv.1
          ∙ paste-suc bytes at part j 0 (omega (arith, c.requires)) (omega arith)
          ∙ ap (λ (n : ℕ). paste bytes at part n) (sym (add-one j)),
    )

pub returns : goal.returns
returns c =
    let bytes = c.args.bytes.now in
    let at = c.args.at in
    let part = c.args.part.now in
    let all : c.loop-j.j ≡ length part = omega arith in
    c.loop-j.invariant.1
    ∙ ap (λ (n : ℕ). paste bytes at part n) all
    ∙ ap (λ (l : List ℕ). take at bytes ++ l ++ drop (at + length part) bytes) (take-length part)
