-- `fit_with` meets its contract: the places with place i among them are places of the table.
use mathlib.Core.Path.{◌≡◌, sym, ap, subst, ◌∙◌}
use Prim.Native.Nat.{ℕ, ◌+◌, ◌<◌, ◌≤◌}
use mathlib.Core.List.{List}
use native.Mathlib.Omega.{arith}
use native.Mathlib.Numerals.{add-one}
use lib.Dec.{ltb}
use lib.ListN.{length, take}
use Rattle.theory.specs.Gather.{insert, All}
use Rattle.theory.proofs.Each.{all_insert}
use Rattle.theory.proofs.Member.{length_insert}
use Rattle.placing.proofs.fit_with.Goals as goal

pub fit_at-requires : goal.fit_at-requires
fit_at-requires c =
    let places = c.args.places.now in
    let inside : ℕ → Type 0 = λ h. h < length c.args.rows.now.c.now in
    let front : take (length places + 1) c.join-joined.result ≡ insert ltb c.args.i places = ap (λ (n : ℕ). take n c.join-joined.result) (add-one (length places)) ∙ c.join-joined.ensures.result_value in
    subst (λ (xs : List ℕ). (1 ≤ length xs) × (length xs ≤ 24) × All inside xs) (sym front) (
      omega (arith, length_insert ltb c.args.i places),
      omega (arith, length_insert ltb c.args.i places, c.requires.0),
      all_insert inside ltb c.args.i places c.requires.1 c.requires.2,
    )
