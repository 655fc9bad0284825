-- Bytes written into a byte string, one part behind another.
use mathlib.Core.Path.{◌≡◌, sym, ap, ◌∙◌}
use Prim.Native.Nat.{ℕ, ◌+◌, ◌*◌, ◌≤◌, ◌<◌}
use mathlib.Core.List.{List, [], ◌∷◌, ◌++◌, flat_map, append_assoc, append-nil}
use native.Mathlib.Omega.{arith}
use native.Mathlib.Nat.{zero-add}
use native.Mathlib.Numerals.{add-one}
use lib.ListN.{length, get_or, take, drop, length-append}
use lib.Seq.{length-take-le, take_at, take-suc, drop-append-add, drop-drop}
use Rattle.theory.specs.Lists.{filled}
use Rattle.records.proofs.Lengths.{flat_map_length}

-- bytes with a part written from a place on
abbrev pub written : List ℕ → ℕ → List ℕ → List ℕ
written before at part = take at before ++ part ++ drop (at + length part) before

-- from the front on: the front is filled with the part
pub written_from_front : (before part : List ℕ) → written before 0 part ≡ filled part before
written_from_front before part = rw zero-add

-- a part, and more behind it, are one part
pub written_behind :
    (before : List ℕ) (at : ℕ) (part more : List ℕ) (end : ℕ) → at ≤ length before → end ≡ at + length part
    → written (written before at part) end more ≡ written before at (part ++ more)
written_behind before at part more end fits ends =
    let front = take at before ++ part in
    let behind = drop (at + length part) before in
    let reach : length front ≡ end = omega (arith, length-append (take at before) part, length-take-le at before fits) in
    let both : at + length part + length more ≡ at + length (part ++ more) = omega (arith, length-append part more) in
    let rest : drop (end + length more) (front ++ behind) ≡ drop (at + length (part ++ more)) before =
    ap (λ (n : ℕ). drop (n + length more) (front ++ behind)) (sym reach)
    ∙ drop-append-add front behind (length more)
    ∙ drop-drop (length more) (at + length part) before
    ∙ ap (λ (n : ℕ). drop n before) both in
    cc (take_at front behind end reach, append_assoc (take at before) part more)

-- a list whose parts are as many bytes each
module _ {A : Type 0} (bytes : A → List ℕ) (n : ℕ) (each : (a : A) → length (bytes a) ≡ n) where
  -- the bytes of one more behind it
  behind_list : (xs : List A) (x : A) → flat_map bytes (xs ++ (x ∷ [])) ≡ flat_map bytes xs ++ bytes x
  unfolding flat_map
  behind_list [] x = append-nil (bytes x)
  behind_list (y ∷ ys) x = rw (append_assoc, behind_list ys x)

  -- the part of one more, written behind those of the first i
  pub one_more_written : (xs : List A) (d : A) (before now : List ℕ) (at i : ℕ) → i < length xs → at ≤ length before
      → now ≡ written before at (flat_map bytes (take i xs))
      → written now (at + n * i) (bytes (get_or xs i d)) ≡ written before at (flat_map bytes (take (i + 1) xs))
  one_more_written xs d before now at i inside fits now-is =
      let first = flat_map bytes (take i xs) in
      let next = bytes (get_or xs i d) in
      let long : at + n * i ≡ at + length first = ap (λ (k : ℕ). at + k) (sym (flat_map_length bytes n each (take i xs) ∙ ap (λ (k : ℕ). n * k) (length-take-le i xs (omega arith)))) in
      cc (
        written_behind before at first next (at + n * i) fits long,
        behind_list (take i xs) (get_or xs i d),
        take-suc xs i d inside,
        add-one i,
      )
