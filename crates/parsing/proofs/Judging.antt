-- Rows judged one by one from the front.
use mathlib.Core.Path.{◌≡◌, refl, sym, ap, ◌∙◌}
use Prim.Native.Nat.{ℕ, suc, ◌+◌, ◌≤◌}
use native.Mathlib.Omega.{arith}
use mathlib.Core.Bool.{Bool, true, false}
use mathlib.Core.List.{List, [], ◌∷◌, ◌++◌, append_assoc}
use lib.Dec.{leb}
use lib.ListN.{length, length-append}
use borrow.Author.Tests.{leb-true, leb-false}
use Rattle.std.specs.Prelude.{Ok, Err}
use Rattle.answers.specs.Answer.{Answer}
use Rattle.answers.specs.declared.Refusal.TheVariants.{RowsOutOfRange, RowBreaksLimits}
use Rattle.theory.specs.Row.{Row, WithinLimits, within_limits}
use Rattle.theory.proofs.Limits.{passing_keeps_limits}
use Rattle.records.specs.Reading.{Reading, refused}
use Rattle.reading.specs.Read.{refused_by}
use Rattle.texts.specs.Table.{judged}
use Rattle.texts.proofs.Judged.{judged_25th, judged_broken, judged_on}
use Rattle.fields.specs.Found.{capped, capped_row}
use Rattle.parsing.specs.Judging.{judged_row}

-- rows from the front and their fault: none, and judging goes on behind them; or one, and nothing behind them changes it
abbrev pub Judging : List Row → Answer → Type 0
Judging rows (Ok none) = (length rows ≤ 24) × ((more : List Row) (whole : Reading) → judged 1 (rows ++ more) whole ≡ judged (suc (length rows)) more whole)
Judging rows (Err fault) = (more : List Row) (whole : Reading) → judged 1 (rows ++ more) whole ≡ refused_by fault

-- no rows yet
pub none_judged : Judging [] (Ok tt)
none_judged = (omega arith, λ more whole. refl)

-- a row as the code holds it keeps the limits where the row does, and is then the row itself
capped_keeps : (row : Row) → WithinLimits row → capped_row row ≡ row
capped_keeps row within =
    let c : capped row.C ≡ row.C = omega (arith, within) in
    let d : capped row.D ≡ row.D = omega (arith, within) in
    let t : capped row.T ≡ row.T = omega (arith, within) in
    rw (c, d, t)

keeps_capped : (row : Row) → WithinLimits (capped_row row) → WithinLimits row
keeps_capped row within = record { runs = omega (arith, within); by_deadline = omega (arith, within); by_period = omega (arith, within); by_million = omega (arith, within) }

pub capped_within : (row : Row) → within_limits (capped_row row) ≡ true → capped_row row ≡ row
capped_within row within = capped_keeps row (keeps_capped row (passing_keeps_limits (capped_row row) within))

pub capped_broken : (row : Row) → within_limits (capped_row row) ≡ false → within_limits row ≡ false
capped_broken row broken = go (within_limits row) refl
  where
    go : (within : Bool) → within_limits row ≡ within → within ≡ false
    go true within = sym within ∙ ap within_limits (sym (capped_keeps row (passing_keeps_limits row within))) ∙ broken
    go false within = refl

module _ (rows : List Row) (row : Row) where
  many_more : length (rows ++ (row ∷ [])) ≡ length rows + 1
  many_more = length-append rows (row ∷ [])

  -- rows behind one more
  behind : (more : List Row) (whole : Reading) → judged 1 ((rows ++ (row ∷ [])) ++ more) whole ≡ judged 1 (rows ++ (row ∷ more)) whole
  behind more whole = ap (λ all. judged 1 all whole) (append_assoc rows (row ∷ []) more)

  -- one row more
  pub row_judged : (fault : Answer) → Judging rows fault → Judging (rows ++ (row ∷ [])) (judged_row fault (length rows) (capped_row row))
  row_judged (Err fault) judges = λ more whole. behind more whole ∙ judges (row ∷ more) whole
  row_judged (Ok none) judges = go (leb 24 (length rows)) refl (within_limits (capped_row row)) refl
    where
      first : (more : List Row) (whole : Reading) → judged 1 ((rows ++ (row ∷ [])) ++ more) whole ≡ judged (suc (length rows)) (row ∷ more) whole
      first more whole = behind more whole ∙ judges.1 (row ∷ more) whole

      go :
          (full : Bool) → leb 24 (length rows) ≡ full → (within : Bool) → within_limits (capped_row row) ≡ within
          → Judging (rows ++ (row ∷ [])) (elim full [ true ↦ Err RowsOutOfRange | false ↦ elim within [ true ↦ Ok tt | false ↦ Err (RowBreaksLimits (length rows + 1)) ] ])
      go true full within limits = λ more whole. first more whole ∙ judged_25th (suc (length rows)) row more whole (omega (arith, leb-true 24 (length rows) full))
      go false full true limits =
          let room = leb-false 24 (length rows) full in
          let next : suc (suc (length rows)) ≡ suc (length (rows ++ (row ∷ []))) = omega (arith, many_more) in (
            omega (arith, many_more, room),
            λ more whole.
                first more whole
                ∙ judged_on (suc (length rows)) row more whole room (sym (ap within_limits (capped_within row limits)) ∙ limits)
                ∙ ap (λ (number : ℕ). judged number more whole) next,
          )
      go false full false limits =
          let number : suc (length rows) ≡ length rows + 1 = omega arith in
          λ more whole.
          first more whole
          ∙ judged_broken (suc (length rows)) row more whole (leb-false 24 (length rows) full) (capped_broken row limits)
          ∙ ap (refused 4) number
