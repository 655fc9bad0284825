-- The figures of a core's rows written to their places: the core's rows have theirs, and the rows of other cores keep theirs.
use mathlib.Core.Path.{◌≡◌, refl, sym, ap, ◌∙◌, subst}
use Prim.Native.Nat.{ℕ, suc, ◌≤◌, ◌<◌}
use mathlib.Core.Logic.{⊎_elim}
use mathlib.Core.List.{List, [], ◌∷◌, map}
use native.Mathlib.Omega.{arith}
use lib.ListN.{length, get_or, length-map}
use Rattle.theory.specs.Gather.{All}
use Rattle.theory.specs.Row.{Row, row_at}
use Rattle.theory.specs.Response.{IsResponse}
use Rattle.theory.specs.Allowance.{IsAllowance}
use Rattle.theory.specs.Lists.{ForEach}
use Rattle.theory.proofs.Tests.{equal_or_not}
use Rattle.theory.proofs.Each.{all_map}
use Rattle.theory.proofs.Order.{ordered_distinct}
use Rattle.placement.specs.Core.{core_rows, core_of, places_on, place_on_core}
use Rattle.placement.proofs.PlacesOn.{core_rows_at_places, places_in_table, places_on_core, places_ascending, place_on_core_inside, place_at_place_on_core}
use Rattle.figures.specs.Scattered.{scattered}
use Rattle.figures.specs.Figured.{CoreFigured}
use Rattle.figures.specs.Placed.{HasFigures}
use Rattle.figures.proofs.Scattered.{scattered_at, scattered_elsewhere}

-- the figures of the rows on cores 1 to m stand at their places
abbrev pub FiguredUpTo : List Row → List ℕ → List ℕ → List ℕ → ℕ → Type 0
FiguredUpTo rows assignment responses allowances m = (i : ℕ) → i < length rows → core_of assignment i ≤ m → HasFigures rows assignment responses allowances i

-- what is written for rows is written for the same rows, otherwise stated
pub figured_same :
    {rows same : List Row} {places responses allowances responses' allowances' : List ℕ}
    → rows ≡ same
    → CoreFigured rows places responses allowances responses' allowances'
    → CoreFigured same places responses allowances responses' allowances'
figured_same {rows} {same} {places} {responses} {allowances} {responses'} {allowances'} e = subst (λ (rs : List Row). CoreFigured rs places responses allowances responses' allowances') e

-- with no place there is nothing to write
pub none_figured : (row : ℕ → Row) (places responses allowances : List ℕ) → length places ≡ 0 → CoreFigured (map row places) places responses allowances responses allowances
unfolding scattered
none_figured row [] responses allowances none =
    record {
      core_responses = [];
      core_allowances = [];
      are_responses = record { one_each = refl; right = λ k h. absurd (omega arith) };
      are_allowances = record { one_each = refl; right = λ k h. absurd (omega arith) };
      responses_written = refl;
      allowances_written = refl;
    }
none_figured row (place ∷ places) responses allowances none = absurd (omega arith)

module _ (rows : List Row) (assignment : List ℕ) (one_each : length assignment ≡ length rows) where
  -- a core has as many places as rows
  core_length : (m : ℕ) → length (core_rows rows assignment m) ≡ length (places_on assignment m)
  core_length m = ap length (core_rows_at_places rows assignment m one_each) ∙ length-map (places_on assignment m) (row_at rows)

  -- numbers for the rows of row i's core, written to their places: row i's stands at its own
  written_here :
      (Right : List Row → ℕ → ℕ → Type 0) (list numbers : List ℕ) (i : ℕ)
      → i < length rows
      → length list ≡ length rows
      → ForEach (core_rows rows assignment (core_of assignment i)) (Right (core_rows rows assignment (core_of assignment i))) numbers
      → Right (core_rows rows assignment (core_of assignment i)) (place_on_core assignment i) (get_or (scattered list (places_on assignment (core_of assignment i)) numbers) i 0)
  written_here Right list numbers i in_table room are =
      let m = core_of assignment i in
      let p = place_on_core assignment i in
      let places = places_on assignment m in
      let below : p < length places = place_on_core_inside assignment i (omega arith) in
      let stands : get_or (scattered list places numbers) (get_or places p 0) 0 ≡ get_or numbers p 0 =
      scattered_at list places numbers (are.one_each ∙ core_length m) (all_map places (λ h l. omega arith) (places_in_table assignment m)) (ordered_distinct ◌<◌ places (λ h l. omega arith) (places_ascending assignment m)) p below in
      subst (Right (core_rows rows assignment m) p)
      (sym (ap (λ (k : ℕ). get_or (scattered list places numbers) k 0) (sym (place_at_place_on_core assignment i (omega arith))) ∙ stands))
      (are.right p (omega (arith, core_length m)))

  -- the figures of the rows on cores 1 to m stand, and those of core m + 1's are written to their places: those of the rows on cores 1 to m + 1 stand
  pub figured_up_to :
      (m : ℕ) (responses allowances responses' allowances' : List ℕ)
      → length responses ≡ length rows
      → length allowances ≡ length rows
      → FiguredUpTo rows assignment responses allowances m
      → CoreFigured (core_rows rows assignment (suc m)) (places_on assignment (suc m)) responses allowances responses' allowances'
      → FiguredUpTo rows assignment responses' allowances' (suc m)
  figured_up_to m responses allowances responses' allowances' r a before figured i in_table up_to_lem = ⊎_elim here elsewhere (equal_or_not (core_of assignment i) (suc m))
    where
      here : core_of assignment i ≡ suc m → HasFigures rows assignment responses' allowances' i
      here e =
          let own : CoreFigured (core_rows rows assignment (core_of assignment i)) (places_on assignment (core_of assignment i)) responses allowances responses' allowances' = rw e figured in
          record {
            its_response = rw own.responses_written (written_here IsResponse responses own.core_responses i in_table r own.are_responses);
            its_allowance = rw own.allowances_written (written_here IsAllowance allowances own.core_allowances i in_table a own.are_allowances);
          }

      elsewhere : (core_of assignment i ≡ suc m → ⊥) → HasFigures rows assignment responses' allowances' i
      elsewhere d =
          let stood = before i in_table (omega arith) in
          let none : All (λ h. i ≡ h → ⊥) (places_on assignment (suc m)) =
          all_map (places_on assignment (suc m)) (λ h on e. d (ap (core_of assignment) e ∙ on)) (places_on_core assignment (suc m)) in
          record {
            its_response = rw (figured.responses_written, scattered_elsewhere responses (places_on assignment (suc m)) figured.core_responses i none) stood.its_response;
            its_allowance = rw (figured.allowances_written, scattered_elsewhere allowances (places_on assignment (suc m)) figured.core_allowances i none) stood.its_allowance;
          }
