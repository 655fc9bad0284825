-- The choice among the first cores of a table goes on from one core to the next, and among all cores it is the stated one, by every rule of choice.
use mathlib.Core.Path.{◌≡◌, refl, subst}
use Prim.Native.Nat.{ℕ, suc, ◌≤◌}
use mathlib.Core.Bool.{Bool, true, false}
use mathlib.Core.Logic.{⊎_elim}
use mathlib.Core.List.{List}
use native.Mathlib.Omega.{arith}
use native.Mathlib.Nat.{le_of_suc-le-suc, eq-or-lt_of_le}
use lib.Dec.{T}
use Rattle.std.specs.Prelude.{Option, Some, None}
use Rattle.theory.specs.Response.{AllMeet}
use Rattle.theory.specs.Allowance.{IsCoreAllowance}
use Rattle.theory.proofs.Each.{T_true, T_false}
use Rattle.theory.proofs.CoreAllowance.{core_allowance_unique}
use Rattle.placement.specs.Core.{Table}
use Rattle.placement.specs.Choice.{Candidate, Rule, IsRule, joined, IsCandidate, IsChosen, NoCandidate}
use Rattle.choices.specs.declared.Candidate.{Candidate as HeldCandidate}
use Rattle.choices.specs.Among.{candidate_of, counted, BestAmong, IsChoiceAmong}

module _ (rule : Rule) (table : Table) (assignment : List ℕ) (i : ℕ) where
  -- among no cores there is no candidate
  pub none_among_none : IsChoiceAmong rule table assignment i 0 None
  none_among_none other no-core is = omega (arith, is.from_one)

  -- among all cores it is the row's choice
  pub chosen_among_all : (candidate : HeldCandidate) → IsChoiceAmong rule table assignment i table.cores (Some candidate) → IsChosen rule table assignment i candidate.core
  chosen_among_all candidate best =
      record {
        choice = candidate_of candidate;
        its_core = refl;
        is_candidate = best.is_candidate;
        none_preferred = λ other is. best.none_preferred other is.on_table is;
      }

  pub none_among_all : IsChoiceAmong rule table assignment i table.cores None → NoCandidate table assignment i
  none_among_all none candidate is = none candidate is.on_table is

  module _ (m : ℕ) where
    -- a candidate on core m + 1 at the latest is on an earlier core, or on that core
    earlier_or_next : (P : Candidate → Type 0) (other : Candidate) → other.core ≤ suc m → (other.core ≤ m → P other) → (other.core ≡ suc m → P other) → P other
    earlier_or_next P other h earlier next = ⊎_elim next (λ l. earlier (le_of_suc-le-suc l)) (eq-or-lt_of_le h)

    -- where the next core does not take the row, the choice stays
    pub among_next_refused : (choice : Option HeldCandidate) → IsChoiceAmong rule table assignment i m choice → (AllMeet (joined table assignment i (suc m)) → ⊥)
        → IsChoiceAmong rule table assignment i (suc m) choice
    among_next_refused None among refuses = λ other h is.
        earlier_or_next (λ c. ⊥) other h (λ l. among other l is) (λ e. refuses (subst (λ (n : ℕ). AllMeet (joined table assignment i n)) e is.all_meet))
    among_next_refused (Some candidate) among refuses =
        record {
          is_candidate = among.is_candidate;
          none_preferred = λ other h is t.
              earlier_or_next (λ c. ⊥) other h (λ l. among.none_preferred other l is t)
              (λ e. refuses (subst (λ (n : ℕ). AllMeet (joined table assignment i n)) e is.all_meet));
        }

    -- where it takes the row, the choice is made with it
    module _ (is-rule : IsRule rule) (on_table : suc m ≤ table.cores) (a : ℕ)
        (all_meet : AllMeet (joined table assignment i (suc m))) (its_allowance : IsCoreAllowance (joined table assignment i (suc m)) a) where
      next : Candidate
      next = record { core = suc m; allowance = a }

      next_is : IsCandidate table assignment i next
      unfolding next
      next_is = record { from_one = omega arith; on_table = on_table; all_meet = all_meet; its_allowance = its_allowance }

      -- a candidate on the next core is this one
      same_as_next : (other : Candidate) → IsCandidate table assignment i other → other.core ≡ suc m → other ≡ next
      unfolding next
      same_as_next other is e =
          let same : other.allowance ≡ a = core_allowance_unique (joined table assignment i (suc m)) other.allowance a (subst (λ (n : ℕ). IsCoreAllowance (joined table assignment i n) other.allowance) e is.its_allowance) its_allowance in
          λ j. record { core = e j; allowance = same j }

      -- a candidate on the next core is not preferred where the next one is not
      not_preferred : (best : Candidate) → (T (rule next best) → ⊥) → (other : Candidate) → IsCandidate table assignment i other → other.core ≡ suc m → T (rule other best) → ⊥
      not_preferred best not other is e t = not (subst (λ (c : Candidate). T (rule c best)) (same_as_next other is e) t)

      -- none is preferred to the next one where none of before is
      next_best : ((other : Candidate) → other.core ≤ m → IsCandidate table assignment i other → T (rule other next) → ⊥) → BestAmong rule table assignment i (suc m) next
      next_best none =
          record {
            is_candidate = next_is;
            none_preferred = λ other h is t.
                earlier_or_next (λ c. ⊥) other h (λ l. none other l is t) (λ e. not_preferred next (λ s. is-rule.asymmetric next next s s) other is e t);
          }

      pub among_next_taken : (choice : Option HeldCandidate) → IsChoiceAmong rule table assignment i m choice → IsChoiceAmong rule table assignment i (suc m) (counted rule choice (record { core = suc m; allowance = a }))
      unfolding next
      among_next_taken None among = next_best (λ other l is t. among other l is)
      among_next_taken (Some candidate) among = go (rule next best) refl
        where
          best : Candidate
          best = candidate_of candidate

          go : (preferred : Bool) → rule next best ≡ preferred → IsChoiceAmong rule table assignment i (suc m) (elim preferred [ true ↦ Some (record { core = suc m; allowance = a }) | false ↦ Some candidate ])
          go true e = next_best (λ other l is t. among.none_preferred other l is (is-rule.transitive other next best t (T_true (rule next best) e)))
          go false e =
              record {
                is_candidate = among.is_candidate;
                none_preferred = λ other h is t.
                    earlier_or_next (λ c. ⊥) other h (λ l. among.none_preferred other l is t) (λ at. not_preferred best (T_false (rule next best) e) other is at t);
              }
