-- A place joined to others: they are copied behind one free entry, and it is put in order among them.
use mathlib.Core.Path.{◌≡◌, ap, ◌∙◌}
use Prim.Native.Nat.{ℕ, suc, ◌+◌}
use mathlib.Core.List.{List, ◌∷◌, ◌++◌}
use native.Mathlib.Numerals.{add-one}
use lib.Dec.{ltb}
use lib.ListN.{length, take, drop}
use lib.Seq.{take-append_seam}
use Rattle.theory.specs.Gather.{insert}
use Rattle.theory.proofs.Member.{length_insert}

-- behind the free entry are the places that were copied
behind_free : (places copied behind : List ℕ) → copied ≡ places → drop 1 (take (length places + 1) (0 ∷ (copied ++ behind))) ≡ places
behind_free places copied behind same = rw (add-one (length places), same) (take-append_seam places behind)

-- so at the front the places stand with place i among them
pub joined_in_front : (places copied behind joined rest : List ℕ) (i : ℕ)
    → copied ≡ places
    → joined ≡ insert ltb i (drop 1 (take (length places + 1) (0 ∷ (copied ++ behind))))
    → take (suc (length places)) (joined ++ rest) ≡ insert ltb i places
joined_in_front places copied behind joined rest i same put =
    let in_order : joined ≡ insert ltb i places = put ∙ ap (insert ltb i) (behind_free places copied behind same) in
    let all : length joined ≡ suc (length places) = ap length in_order ∙ length_insert ltb i places in
    rw (← all) (take-append_seam joined rest) ∙ in_order
