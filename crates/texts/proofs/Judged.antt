-- Rows judged from the front: how it goes at a row, and what comes of all.
use mathlib.Core.Path.{◌≡◌, refl, ◌∙◌}
use Prim.Native.Nat.{ℕ, suc, ◌+◌, ◌≤◌, ◌<◌, suc-le-suc}
use native.Mathlib.Omega.{arith}
use mathlib.Core.Bool.{Bool, true, false}
use mathlib.Core.List.{List, [], ◌∷◌}
use lib.Dec.{ltb}
use lib.ListN.{length}
use borrow.Author.Tests.{ltb-true, ltb-false, lt-ltb, le-ltb}
use Rattle.theory.specs.Row.{Row, within_limits, AllWithin}
use Rattle.theory.proofs.Limits.{passing_keeps_limits, keeping_limits_passes, within_cons}
use Rattle.records.specs.Reading.{Reading, refused}
use Rattle.texts.specs.Table.{judged}

-- a row with a number, and others behind it
module _ (number : ℕ) (row : Row) (rows : List Row) (sound : Reading) where
  pub judged_25th : 24 < number → judged number (row ∷ rows) sound ≡ refused 3 0
  unfolding judged
  judged_25th many = rw (lt-ltb 24 number many, judged)

  module _ (few : number ≤ 24) where
    pub judged_broken : within_limits row ≡ false → judged number (row ∷ rows) sound ≡ refused 4 number
    unfolding judged
    judged_broken broken = rw (le-ltb 24 number few, broken, judged)

    pub judged_on : within_limits row ≡ true → judged number (row ∷ rows) sound ≡ judged (suc number) rows sound
    unfolding judged
    judged_on within = rw (le-ltb 24 number few, within, judged)

-- rows within the limits, none of them a 25th, are sound
pub within_judged : (number : ℕ) (rows : List Row) (sound : Reading) → number + length rows ≤ 25 → AllWithin rows → judged number rows sound ≡ sound
unfolding judged
within_judged number [] sound few within = refl
within_judged number (row ∷ rows) sound few within =
    judged_on number row rows sound (omega arith) (keeping_limits_passes row (within 0 (omega arith)))
    ∙ within_judged (suc number) rows sound (omega arith) (λ k inside. within (suc k) (suc-le-suc inside))

-- what rows come to, the first of which has a number: they are sound, or have a fault
pub data Judged (number : ℕ) (rows : List Row) : Type 0 where
  are_sound : number + length rows ≤ 25 → AllWithin rows → Judged number rows
  too_many : ((sound : Reading) → judged number rows sound ≡ refused 3 0) → Judged number rows
  one_broken : (broken : ℕ) → broken ≤ 24 → ((sound : Reading) → judged number rows sound ≡ refused 4 broken) → Judged number rows

pub judged_as : (number : ℕ) (rows : List Row) → number ≤ 25 → Judged number rows
judged_as number [] few = are_sound (omega arith) (λ k inside. absurd (omega arith))
judged_as number (row ∷ rows) few = go (ltb 24 number) refl (within_limits row) refl (judged_as (suc number) rows)
  where
    go : (many : Bool) → ltb 24 number ≡ many → (within : Bool) → within_limits row ≡ within → (suc number ≤ 25 → Judged (suc number) rows) → Judged number (row ∷ rows)
    go true many within limits others = too_many (λ sound. judged_25th number row rows sound (ltb-true 24 number many))
    go false few false limits others = let room = ltb-false 24 number few in one_broken number room (λ sound. judged_broken number row rows sound room limits)
    go false few true limits others = behind (others (omega (arith, ltb-false 24 number few)))
      where
        on : (sound : Reading) → judged number (row ∷ rows) sound ≡ judged (suc number) rows sound
        on sound = judged_on number row rows sound (ltb-false 24 number few) limits

        behind : Judged (suc number) rows → Judged number (row ∷ rows)
        behind (are_sound fit within) = are_sound (omega (arith, fit)) (within_cons row rows (passing_keeps_limits row limits) within)
        behind (too_many refuses) = too_many (λ sound. on sound ∙ refuses sound)
        behind (one_broken broken fits refuses) = one_broken broken fits (λ sound. on sound ∙ refuses sound)
