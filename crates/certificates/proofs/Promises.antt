-- What a certificate promises of its table, for the crates above: of each row of an accepted table its core, its response time and its allowance; and refusal 6
-- exactly when no core is a candidate for the next row.
use mathlib.Core.Path.{◌≡◌, sym, ap, subst, ◌∙◌}
use Prim.Native.Nat.{ℕ, suc, ◌+◌, ◌≤◌, ◌<◌}
use mathlib.Core.Logic.{◌↔◌}
use mathlib.Core.List.{List}
use native.Mathlib.Omega.{arith}
use lib.ListN.{length, take, length-set}
use lib.Seq.{ext_get_or, length-take-le}
use Rattle.std.specs.Prelude.{Result, Ok, Err}
use Rattle.answers.specs.declared.Refusal.{Refusal}
use Rattle.answers.specs.declared.Refusal.TheVariants.{NoCoreTakes}
use Rattle.theory.specs.Row.{Row, row_at, AllWithin}
use Rattle.theory.specs.Response.{AllMeet, IsResponse}
use Rattle.theory.specs.Allowance.{longer, IsAllowance}
use Rattle.theory.proofs.Trial.{raise_bounded}
use Rattle.placement.specs.Core.{Table, core_rows, place_on_core}
use Rattle.placement.specs.Choice.{Rule, allowance_fit}
use Rattle.placement.specs.Placement.{Stopped}
use Rattle.placement.specs.Figures as figured
use Rattle.placement.specs.Figures.{Figures, figures_at, IsFigures, Certified}
use Rattle.placement.proofs.Core.{StandsAt}
use Rattle.placement.proofs.Moment.{underway}
use Rattle.placement.proofs.Certified.{InTime, certified_in_time}
use Rattle.placement.proofs.Determined.{certificate_unique}
use Rattle.placement.proofs.Fit.{allowance_fit_is_rule}
use Rattle.placement.proofs.FiguresFrom.{figures_from_length, figures_from_at}
use Rattle.certificates.specs.declared.certificate.Certificate.{Certificate}
use Rattle.certificates.specs.Held.{held_figures, IsHeld}

-- of a row within the limits, wherever it stands on a core, response time and allowance together are at most the deadline
pub allowance_by_deadline :
    (rows on_core : List Row) (i n R a : ℕ) → AllWithin rows → i < length rows → StandsAt rows on_core i n → IsResponse on_core n R → IsAllowance on_core n a
    → R + a ≤ (row_at rows i).D
allowance_by_deadline rows on_core i n R a within inside stands is_response is_allowance =
    let still_meets = is_allowance.all_meet n (subst (λ (k : ℕ). n < k) (sym (length-set on_core n (longer (row_at on_core n) a))) stands.in_core) in
    omega (
      arith,
      raise_bounded on_core n stands.in_core a R (omega (arith, (within i inside).runs, ap (λ (row : Row). row.C) stands.same_row)) is_response still_meets,
      ap (λ (row : Row). row.D) stands.same_row,
    )

-- so it is in a certified table within the limits
pub certified_by_deadline :
    (rule : Rule) (table : Table) (all : List Figures) → AllWithin table.rows → Certified rule table all
    → (i : ℕ)
    → i < length table.rows
    → (figures_at all i).response + (figures_at all i).allowance ≤ (row_at table.rows i).D
certified_by_deadline rule table all within c i inside =
    let figures = c.are_figures.right i inside in
    allowance_by_deadline table.rows _ i _ _ _ within inside (certified_in_time rule table all c i inside).stands figures.its_response figures.its_allowance

-- the core of each row, in table order
abbrev pub held_cores : Certificate → List ℕ
held_cores certificate = take certificate.n certificate.core

-- the figures of row i
abbrev pub figures_of_row : Certificate → ℕ → Figures
figures_of_row certificate i = figures_at (held_figures certificate) i

-- the rows on its core
abbrev pub rows_on_its_core : Table → Certificate → ℕ → List Row
rows_on_its_core table certificate i = core_rows table.rows (held_cores certificate) (figures_of_row certificate i).core

-- what an accepted certificate promises of row i: it stands on a core of the table, all rows of that core meet, its response time is the least solution there and
-- by its deadline, and its allowance is the largest
pub record Promised (table : Table) (certificate : Certificate) (i : ℕ) : Type 0 where
  pub from_one : 1 ≤ (figures_of_row certificate i).core
  pub on_table : (figures_of_row certificate i).core ≤ table.cores
  pub stands : StandsAt table.rows (rows_on_its_core table certificate i) i (place_on_core (held_cores certificate) i)
  pub core_meets : AllMeet (rows_on_its_core table certificate i)
  pub its_response : IsResponse (rows_on_its_core table certificate i) (place_on_core (held_cores certificate) i) (figures_of_row certificate i).response
  pub by_deadline : (figures_of_row certificate i).response ≤ (row_at table.rows i).D
  pub its_allowance : IsAllowance (rows_on_its_core table certificate i) (place_on_core (held_cores certificate) i) (figures_of_row certificate i).allowance

-- each of a certificate's lists of figures has an entry for each of its n rows
module _ (certificate : Certificate) where
  front : (numbers : List ℕ) → length numbers ≡ 24 → length (take certificate.n numbers) ≡ certificate.n
  front numbers long = length-take-le certificate.n numbers (omega (arith, long, certificate.long.no_25th_row))

  pub cores_front : length (take certificate.n certificate.core) ≡ certificate.n
  cores_front = front certificate.core certificate.long.core_long

  pub responses_front : length (take certificate.n certificate.response) ≡ certificate.n
  responses_front = front certificate.response certificate.long.response_long

  pub allowances_front : length (take certificate.n certificate.allowance) ≡ certificate.n
  allowances_front = front certificate.allowance certificate.long.allowance_long

module _ (table : Table) where
  module _ (certificate : Certificate) (c : Certified allowance_fit table (held_figures certificate)) where
    -- its rows are the table's
    pub many_figures : certificate.n ≡ length table.rows
    many_figures =
        sym (figures_from_length (held_cores certificate) (take certificate.n certificate.response) (take certificate.n certificate.allowance)
        (responses_front certificate ∙ sym (cores_front certificate)) (allowances_front certificate ∙ sym (cores_front certificate))
        ∙ cores_front certificate)
        ∙ c.are_figures.one_each

    -- the cores that are held are the assignment
    cores_are_assignment : c.assignment ≡ held_cores certificate
    cores_are_assignment =
        let responses = take certificate.n certificate.response in
        let allowances = take certificate.n certificate.allowance in
        let one_each = (underway allowance_fit table c.placed).one_each in
        ext_get_or 0 c.assignment (held_cores certificate)
        (one_each ∙ sym many_figures ∙ sym (cores_front certificate))
        (λ i inside.
        sym (c.are_figures.right i (omega (arith, inside, one_each))).its_core
        ∙ ap (λ (figures : Figures). figures.core)
        (figures_from_at (held_cores certificate) responses allowances
        (responses_front certificate ∙ sym (cores_front certificate)) (allowances_front certificate ∙ sym (cores_front certificate)) i))

    -- AN ACCEPTED CERTIFICATE KEEPS ITS PROMISE OF EACH ROW
    pub accepted_promises : (i : ℕ) → i < length table.rows → Promised table certificate i
    accepted_promises i inside =
        let in_time_lem : InTime table (held_cores certificate) i (figures_of_row certificate i) =
        subst (λ (cores : List ℕ). InTime table cores i (figures_of_row certificate i)) cores_are_assignment (certified_in_time allowance_fit table (held_figures certificate) c i inside) in
        let figures : IsFigures table.rows (held_cores certificate) i (figures_of_row certificate i) =
        subst (λ (cores : List ℕ). IsFigures table.rows cores i (figures_of_row certificate i)) cores_are_assignment (c.are_figures.right i inside) in
        record {
          from_one = in_time_lem.from_one;
          on_table = in_time_lem.on_table;
          stands = in_time_lem.stands;
          core_meets = in_time_lem.core_meets;
          its_response = figures.its_response;
          by_deadline = in_time_lem.by_deadline;
          its_allowance = figures.its_allowance;
        }

  -- what a table comes to is one
  one_outcome : (outcome : figured.Certificate) (i : ℕ) → figured.IsCertificate allowance_fit table outcome → Stopped allowance_fit table i → outcome ≡ figured.no_core_takes i
  one_outcome outcome i is stop = certificate_unique allowance_fit allowance_fit_is_rule table outcome (figured.no_core_takes i) is stop

  -- a refused row is the next at a moment of the placement, and no core is a candidate for it
  refused_stopped : (given : Result Certificate Refusal) → IsHeld table given → (i : ℕ) → given ≡ Err (NoCoreTakes (suc i)) → Stopped allowance_fit table i
  refused_stopped (Ok certificate) held i refused = cc refused
  refused_stopped (Err refusal) (j, refuses, stop) i refused = let same : suc j ≡ suc i = cc (refuses, refused) in subst (Stopped allowance_fit table) (omega arith) stop

  -- where that is so, the row is refused
  stopped_refused : (given : Result Certificate Refusal) → IsHeld table given → (i : ℕ) → Stopped allowance_fit table i → given ≡ Err (NoCoreTakes (suc i))
  stopped_refused (Ok certificate) held i stop = let e = one_outcome (figured.certified (held_figures certificate)) i held stop in cc e
  stopped_refused (Err refusal) (j, refuses, stopped) i stop =
      let e = one_outcome (figured.no_core_takes j) i stopped stop in let same : j ≡ i = cc e in ap (λ (r : Refusal). Err r) (refuses ∙ ap (λ (k : ℕ). NoCoreTakes (suc k)) same)

  -- REFUSAL 6 EXACTLY WHEN ROW i IS THE NEXT AT A MOMENT OF THE PLACEMENT AND NO CORE IS A CANDIDATE FOR IT
  pub refused_exactly_when : (given : Result Certificate Refusal) → IsHeld table given → (i : ℕ) → (given ≡ Err (NoCoreTakes (suc i))) ↔ Stopped allowance_fit table i
  refused_exactly_when given held i = (refused_stopped given held i, stopped_refused given held i)
