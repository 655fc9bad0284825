-- Allowance-Fit: it is a rule of choice, and it chooses as document 01 says.
use mathlib.Core.Path.{◌≡◌, sym, subst}
use Prim.Native.Nat.{ℕ, ◌≤◌, ◌<◌}
use native.Mathlib.Omega.{arith}
use mathlib.Core.Logic.{◌↔◌, ◌⊎◌, inl, inr}
use mathlib.Core.List.{List}
use lib.Dec.{T}
use Rattle.theory.proofs.Tests.{less_or_tied_lem, passes_less_or_tied, not_less_or_tied, tied_asymmetric, tied_connected, tied_chain}
use Rattle.placement.specs.Core.{Table}
use Rattle.placement.specs.Choice.{Candidate, IsCandidate, IsRule, allowance_fit, IsChosen}

-- Allowance-Fit in words: the greater core allowance is preferred; on a tie, the lower core number
pub fit_exactly :
    (c d : Candidate) → T (allowance_fit c d) ↔ ((d.allowance < c.allowance) ⊎ ((d.allowance ≡ c.allowance) × (c.core < d.core)))
fit_exactly c d = (less_or_tied_lem d.allowance c.allowance c.core d.core, passes_less_or_tied d.allowance c.allowance c.core d.core)

-- Allowance-Fit is a rule of choice
pub allowance_fit_is_rule : IsRule allowance_fit
allowance_fit_is_rule =
    record {
      transitive = λ c d e s t. (fit_exactly c e).1 (tied_chain ((fit_exactly c d).0 s) ((fit_exactly d e).0 t) (omega arith) (omega arith) (omega arith));
      asymmetric = λ c d. tied_asymmetric d.allowance c.allowance c.core d.core;
      decides = λ c d. tied_connected d.allowance c.allowance c.core d.core;
    }

-- the candidate with the greater core allowance is preferred
pub greater_preferred : (c d : Candidate) → d.allowance < c.allowance → T (allowance_fit c d)
greater_preferred c d h = (fit_exactly c d).1 (inl h)

-- of candidates with one core allowance, the lower core number is preferred, and the higher is not
pub tie_to_lower_core : (c d : Candidate) → d.allowance ≡ c.allowance → c.core < d.core → T (allowance_fit c d) × (T (allowance_fit d c) → ⊥)
tie_to_lower_core c d e h =
    let preferred : T (allowance_fit c d) = (fit_exactly c d).1 (inr (e, h)) in
    (preferred, allowance_fit_is_rule.asymmetric c d preferred)

-- no candidate has a greater core allowance, new row counted; of those with as great a one, none has a lower core number
pub record FitsBest (table : Table) (assignment : List ℕ) (i m : ℕ) (choice : Candidate) : Type 0 where
  pub greatest : (other : Candidate) → IsCandidate table assignment i other → other.allowance ≤ choice.allowance
  pub lowest : (other : Candidate) → IsCandidate table assignment i other → other.allowance ≡ choice.allowance → m ≤ other.core

-- what Allowance-Fit chooses fits best
pub allowance_fit_chooses :
    (table : Table) (assignment : List ℕ) (i m : ℕ) (chosen : IsChosen allowance_fit table assignment i m)
    → FitsBest table assignment i m chosen.choice
allowance_fit_chooses table assignment i m chosen =
    record {
      greatest = λ other candidate. (compared other candidate).0;
      lowest = λ other candidate e. subst (λ n. n ≤ other.core) chosen.its_core ((compared other candidate).1 (sym e));
    }
  where
    compared : (other : Candidate) → IsCandidate table assignment i other → (other.allowance ≤ chosen.choice.allowance) × (chosen.choice.allowance ≡ other.allowance → chosen.choice.core ≤ other.core)
    compared other candidate = not_less_or_tied chosen.choice.allowance other.allowance other.core chosen.choice.core (chosen.none_preferred other candidate)
