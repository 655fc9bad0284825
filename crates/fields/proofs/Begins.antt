-- A byte at a place of a text, and what stands from there on.
use mathlib.Core.Path.{◌≡◌, refl, sym, ap, ◌∙◌}
use Prim.Native.Nat.{ℕ, suc, ◌+◌, ◌≤◌, ◌<◌}
use native.Mathlib.Omega.{arith}
use mathlib.Core.Bool.{Bool, true, false, true≢false}
use mathlib.Core.List.{List, ◌∷◌}
use lib.Dec.{ltb, eqb}
use lib.ListN.{length, get_or, drop, drop_of_length-le}
use lib.Seq.{drop-cons}
use borrow.Author.Tests.{ltb-true, ltb-false, eqb-true}
use Rattle.texts.specs.Text.{begins_with}

-- the text from a place on, one byte and the text behind it
pub one_byte : (text : List ℕ) (at : ℕ) → at < length text → drop at text ≡ get_or text at 0 ∷ drop (at + 1) text
one_byte text at inside = let next : at + 1 ≡ suc at = omega arith in rw next (drop-cons text at 0 inside)

module _ (text : List ℕ) (at byte : ℕ) where
  pub begins_inside : at < length text → eqb (get_or text at 0) byte ≡ begins_with byte (drop at text)
  begins_inside inside = rw (one_byte text at inside)

  pub begins_past : length text ≤ at → false ≡ begins_with byte (drop at text)
  begins_past past = rw (drop_of_length-le text past)

  -- where a byte stands the text goes on behind it
  pub stands_there : begins_with byte (drop at text) ≡ true → (at < length text) × (drop at text ≡ byte ∷ drop (at + 1) text)
  stands_there begins = go (ltb at (length text)) refl
    where
      go : (inside : Bool) → ltb at (length text) ≡ inside → (at < length text) × (drop at text ≡ byte ∷ drop (at + 1) text)
      go true inside =
          let within = ltb-true at (length text) inside in
          (within, one_byte text at within ∙ ap (λ x. x ∷ drop (at + 1) text) (eqb-true _ byte (begins_inside within ∙ begins)))
      go false past = absurd (true≢false (sym begins ∙ sym (begins_past (ltb-false at (length text) past))))
