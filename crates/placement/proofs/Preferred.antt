-- Of candidates, the one that a rule of choice leaves is the best: the rule prefers none of them to it.
use mathlib.Core.List.{List, ◌∷◌}
use lib.Dec.{T}
use Rattle.theory.specs.Gather.{best}
use Rattle.theory.proofs.Each.{T_true, T_false}
use Rattle.theory.proofs.Best.{Best, best_is}
use Rattle.placement.specs.Choice.{Candidate, Rule, IsRule}

module _ (rule : Rule) (is-rule : IsRule rule) where
  -- the first candidate is not preferred to the second
  abbrev pub NotPreferred : Candidate → Candidate → Type 0
  NotPreferred c d = T (rule c d) → ⊥

  -- none of the candidates is preferred to the one that is left
  pub none_preferred : (c : Candidate) (ds : List Candidate) → Best NotPreferred (c ∷ ds) (best rule c ds)
  none_preferred =
      best_is
      rule
      NotPreferred
      (λ c t. is-rule.asymmetric c c t t)
      (λ c next d e h t. h (is-rule.transitive c next d t (T_true (rule next d) e)))
      (λ next d. T_false (rule next d))
