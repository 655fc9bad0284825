-- The choice among the first cores goes on by what the next core's fit says.
use mathlib.Core.Path.{◌≡◌, refl, sym, ap, subst, ◌∙◌}
use Prim.Native.Nat.{ℕ, suc, ◌+◌, ◌<◌}
use native.Mathlib.Numerals.{add-one}
use mathlib.Core.List.{List, map}
use Rattle.std.specs.Prelude.{Option, Some, None}
use lib.Dec.{ltb}
use lib.ListN.{length}
use Rattle.theory.specs.Row.{Row, row_at}
use Rattle.theory.specs.Gather.{insert}
use Rattle.rows.specs.declared.Rows.{Rows}
use Rattle.rows.specs.Values.{rows_in}
use Rattle.theory.proofs.RowsOf.{rows_of_places}
use Rattle.placement.specs.Core.{Table}
use Rattle.placement.specs.Choice.{allowance_fit, joined}
use Rattle.placement.proofs.Fit.{allowance_fit_is_rule}
use Rattle.cores.specs.Cores.{HeldWithout, held_places}
use Rattle.cores.proofs.Gathered.{gathered_joined}
use Rattle.fits.specs.Fit.{IsFit}
use Rattle.choices.specs.declared.Candidate.{Candidate}
use Rattle.choices.specs.Among.{IsChoiceAmong}
use Rattle.choices.proofs.Among.{among_next_taken, among_next_refused}
use Rattle.placing.specs.Considered.{considered}
use Rattle.placing.specs.Placed.{table_in}

-- with the next core considered, the choice is among one core more
pub considered_next :
    (table : Table) (assignment : List ℕ) (i m : ℕ) (choice next : Option Candidate) (fit : Option ℕ)
    → m < table.cores
    → IsChoiceAmong allowance_fit table assignment i m choice
    → IsFit (joined table assignment i (suc m)) fit
    → next ≡ considered allowance_fit choice (m + 1) fit
    → IsChoiceAmong allowance_fit table assignment i (m + 1) next
considered_next table assignment i m choice next fit on_table among fits is-next =
    subst (IsChoiceAmong allowance_fit table assignment i (m + 1)) (sym is-next)
    (subst (λ (n : ℕ). IsChoiceAmong allowance_fit table assignment i n (considered allowance_fit choice n fit)) (sym (add-one m)) (go fit fits))
  where
    go : (fit : Option ℕ) → IsFit (joined table assignment i (suc m)) fit → IsChoiceAmong allowance_fit table assignment i (suc m) (considered allowance_fit choice (suc m) fit)
    go (Some a) fits = among_next_taken allowance_fit table assignment i m allowance_fit_is_rule on_table a fits.0 fits.1 choice among
    go None fits = among_next_refused allowance_fit table assignment i m choice among fits

-- the rows at the places held for core m + 1, with row i among them, are that core's rows with row i
pub held_fit :
    (cores : ℕ) (rows : Rows) (i m : ℕ) (lists : List (List ℕ)) (counts : List ℕ) (fit : Option ℕ)
    → m < 8
    → i < length rows.c.now
    → (without : HeldWithout (length rows.c.now) i lists counts)
    → (places : List ℕ)
    → places ≡ held_places lists counts m
    → IsFit (map (row_at (rows_in rows)) (insert ltb i places)) fit
    → IsFit (joined (table_in cores rows) without.assignment i (suc m)) fit
held_fit cores rows i m lists counts fit on_table in_table without places are =
    subst (λ (set : List Row). IsFit set fit)
    (ap (λ (xs : List ℕ). map (row_at (rows_in rows)) (insert ltb i xs)) are
    ∙ sym (rows_of_places rows.c.now rows.d.now rows.t.now rows.shaped.as_many_deadlines rows.shaped.as_many_periods (insert ltb i (held_places lists counts m)))
    ∙ gathered_joined rows.c.now rows.d.now rows.t.now rows.shaped.as_many_deadlines rows.shaped.as_many_periods (table_in cores rows) refl without.holds m on_table i
    (subst (λ (n : ℕ). i < n) (sym without.one_each) in_table) without.on_none without.one_each)
