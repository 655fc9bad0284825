-- From a placement and its figures, as the code leaves them, to the certificate of the table.
use mathlib.Core.Path.{◌≡◌, refl, sym, ap, subst, ◌∙◌}
use Prim.Native.Nat.{ℕ, zero, suc, ◌≤◌, ◌<◌}
use mathlib.Core.List.{List, [], ◌∷◌, ◌++◌}
use native.Mathlib.Omega.{arith}
use lib.ListN.{length, take, drop, replicate}
use lib.Seq.{take_at}
use Rattle.std.specs.Prelude.{Ok, Err}
use Rattle.answers.specs.declared.Refusal.{Refusal}
use Rattle.answers.specs.Answer.{Answer}
use Rattle.placement.specs.Core.{Table}
use Rattle.placement.specs.Choice.{allowance_fit}
use Rattle.placement.specs.Placement.{Moment}
use Rattle.placement.specs.Figures.{figures_from, IsFigures, Certified}
use Rattle.placement.proofs.Moment.{OnSomeCore, underway, cores_meet_always, all_placed}
use Rattle.placement.proofs.FiguresFrom.{figures_from_length, figures_from_at}
use Rattle.cores.specs.Cores.{HoldsCores}
use Rattle.placing.specs.Placed.{IsPlaced, placed, stopped}
use Rattle.figures.specs.Placed.{PlacedRows, HasFigures}
use Rattle.certificates.specs.Held.{IsHeld}

-- zeros at the front of zeros
pub take_zeros : (n m : ℕ) → n ≤ m → take n (replicate {A = ℕ} m 0) ≡ replicate n 0
take_zeros zero m h = refl
take_zeros (suc n) zero h = absurd (omega arith)
take_zeros (suc n) (suc m) h = ap (λ (zeros : List ℕ). 0 ∷ zeros) (take_zeros n m (omega arith))

module _ {table : Table} {assignment : List ℕ} {rows : List (List ℕ)} {counts : List ℕ} where
  -- a placement that is refused is the certificate that no core takes a row
  pub refused_held : {answer : Answer} {refusal : Refusal} → IsPlaced allowance_fit table assignment rows counts answer → answer ≡ Err refusal → IsHeld table (Err refusal)
  refused_held (placed moment holds) refused = cc refused
  refused_held (stopped i stop) refused = (i, cc refused, stop)

  -- one that is not has every row placed
  pub accepted_placed : {answer : Answer} → IsPlaced allowance_fit table assignment rows counts answer → answer ≡ Ok tt
      → Moment allowance_fit table assignment [] × HoldsCores assignment rows counts
  accepted_placed (placed moment holds) accepted = (moment, holds)
  accepted_placed (stopped i stop) accepted = cc accepted

  module _ (few : table.cores ≤ 8) (moment : Moment allowance_fit table assignment []) where
    -- then every row is on a core, and every core's rows meet
    abbrev pub placed_rows : HoldsCores assignment rows counts → PlacedRows table.rows rows counts
    placed_rows holds =
        record {
          assignment = assignment;
          one_each = (underway allowance_fit table moment).one_each;
          on_some_core = λ i h. let on : OnSomeCore table assignment i = all_placed allowance_fit table assignment moment i h in (on.from_one, omega (arith, on.on_table));
          cores_meet = cores_meet_always allowance_fit table assignment [] moment;
          holds = holds;
        }

-- with each row's response time and allowance that is the certificate
pub placed_certified :
    (table : Table) (assignment responses allowances : List ℕ)
    → length responses ≡ length table.rows
    → length allowances ≡ length table.rows
    → Moment allowance_fit table assignment []
    → ((i : ℕ) → i < length table.rows → HasFigures table.rows assignment responses allowances i)
    → Certified allowance_fit table (figures_from assignment responses allowances)
placed_certified table assignment responses allowances r a moment has =
    let one_each = (underway allowance_fit table moment).one_each in
    let as_many_responses = r ∙ sym one_each in
    let as-many-allowances = a ∙ sym one_each in
    record {
      assignment = assignment;
      placed = moment;
      are_figures = record {
        one_each = figures_from_length assignment responses allowances as_many_responses as-many-allowances ∙ one_each;
        right = λ i h.
            subst (IsFigures table.rows assignment i) (sym (figures_from_at assignment responses allowances as_many_responses as-many-allowances i))
            (record { its_core = refl; its_response = (has i h).its_response; its_allowance = (has i h).its_allowance });
      };
    }

-- entries at the front of 24 zeros
abbrev pub with_zeros : List ℕ → ℕ → List ℕ
with_zeros front n = front ++ drop n (replicate 24 0)

-- three such arrays have the figures at their fronts
pub fronts_certified :
    (table : Table) (assignment responses allowances : List ℕ) (n : ℕ)
    → n ≡ length table.rows
    → length responses ≡ n
    → length allowances ≡ n
    → Moment allowance_fit table assignment []
    → ((i : ℕ) → i < length table.rows → HasFigures table.rows assignment responses allowances i)
    → Certified allowance_fit table (figures_from (take n (with_zeros assignment n)) (take n (with_zeros responses n)) (take n (with_zeros allowances n)))
fronts_certified table assignment responses allowances n many r a moment has =
    rw (front assignment c, front responses r, front allowances a) (placed_certified table assignment responses allowances (r ∙ many) (a ∙ many) moment has)
  where
    c : length assignment ≡ n
    c = (underway allowance_fit table moment).one_each ∙ sym many

    front : (numbers : List ℕ) → length numbers ≡ n → take n (with_zeros numbers n) ≡ numbers
    front numbers same = take_at numbers (drop n (replicate 24 0)) n same
