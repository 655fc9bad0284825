-- One computed step of the placement is the stated one, by every rule of choice.
use mathlib.Core.Path.{◌≡◌, refl, subst}
use Prim.Native.Nat.{ℕ, ◌+◌, ◌≤◌, ◌<◌}
use native.Mathlib.Omega.{arith}
use mathlib.Core.List.Memᴰ
use mathlib.Core.List.{List, [], ◌∷◌, map, Memᴰ}
use lib.Dec.{T}
use lib.ListN.{length, set, length-set}
use lib.Seq.{get_or-set_same}
use Rattle.theory.specs.Row.{WithinLimits, AllWithin}
use Rattle.theory.specs.Gather.{up_from, best, All}
use Rattle.theory.specs.Points.{core_allowance}
use Rattle.theory.proofs.Each.{all_map, all_kept, all_up_from}
use Rattle.theory.proofs.Member.{all_at, mem_keep, mem_up_from, mem_map, mem_of_map}
use Rattle.theory.proofs.Verdict.{AllSteady, within_steady}
use Rattle.theory.proofs.CoreAllowance.{on_time_meets, meets_on_time, core_allowance_is, core_allowance_unique}
use Rattle.placement.specs.Core.{Table}
use Rattle.placement.specs.Choice.{Candidate, Rule, IsRule, joined, IsCandidate, IsChosen, NoCandidate}
use Rattle.placement.specs.Computed.{takes, candidate_at, takers, Step, to_core, no_core, chosen_of, step_of}
use Rattle.placement.proofs.Core.{core_rows_each, stands_at}
use Rattle.placement.proofs.Preferred.{none_preferred}

-- what a computed step has to say of row i: the core to which it goes, or that none takes it
abbrev pub IsStep : Rule → Table → List ℕ → ℕ → Step → Type 0
IsStep rule table assignment i (to_core m) = IsChosen rule table assignment i m
IsStep rule table assignment i no_core = NoCandidate table assignment i

module _
    (table : Table)
    (within : AllWithin table.rows)
    (assignment : List ℕ)
    (one_each : length assignment ≡ length table.rows)
    (i : ℕ)
    (in_table : i < length table.rows) where
  -- the rows of a core with row i keep the limits
  pub joined_within : (m : ℕ) → AllWithin (joined table assignment i m)
  joined_within m = core_rows_each WithinLimits table.rows (set assignment i m) m within

  -- so they have what the theory needs
  pub joined_steady : (m : ℕ) → AllSteady (joined table assignment i m)
  joined_steady m = within_steady (joined table assignment i m) (joined_within m)

  -- the rows of a core with row i are not none
  pub joined_some : (m : ℕ) → 0 < length (joined table assignment i m)
  joined_some m = omega (arith, (stands_at table.rows (set assignment i m) i m in_table (omega (arith, length-set assignment i m)) (get_or-set_same assignment i m 0 (omega arith))).in_core)

  -- a core that passes the test is a candidate
  pub candidate_at_is : (m : ℕ) → (1 ≤ m) × (m < 1 + table.cores) → T (takes table assignment i m) → IsCandidate table assignment i (candidate_at table assignment i m)
  unfolding takes candidate_at
  candidate_at_is m bounds t =
      let all_meet = on_time_meets (joined table assignment i m) (joined_steady m) t in
      record {
        from_one = omega arith;
        on_table = omega arith;
        all_meet = all_meet;
        its_allowance = core_allowance_is (joined table assignment i m) (joined_steady m) all_meet (joined_some m);
      }

  -- the cores that pass the test are candidates
  pub takers_are : All (λ m. IsCandidate table assignment i (candidate_at table assignment i m)) (takers table assignment i)
  unfolding takers
  takers_are =
      all_map
      (takers table assignment i)
      (λ m h. candidate_at_is m h.0 h.1)
      (all_kept (λ m. (1 ≤ m) × (m < 1 + table.cores)) (takes table assignment i) (up_from 1 table.cores) (all_up_from 1 table.cores))

  -- a candidate's core passes the test
  pub candidate_taken : (c : Candidate) → IsCandidate table assignment i c → Memᴰ c.core (takers table assignment i)
  unfolding takers takes
  candidate_taken c h = mem_keep (takes table assignment i) (mem_up_from 1 table.cores c.core h.from_one (omega (arith, h.on_table))) (meets_on_time (joined table assignment i c.core) (joined_steady c.core) h.all_meet)

  -- a candidate is the one computed at its core
  pub candidate_computed : (c : Candidate) → IsCandidate table assignment i c → candidate_at table assignment i c.core ≡ c
  unfolding candidate_at
  candidate_computed c h =
      λ j.
      record {
        core = c.core;
        allowance = core_allowance_unique (joined table assignment i c.core) (core_allowance (joined table assignment i c.core)) c.allowance (core_allowance_is (joined table assignment i c.core) (joined_steady c.core) h.all_meet (joined_some c.core)) h.its_allowance j;
      }

  module _ (rule : Rule) (is-rule : IsRule rule) where
    -- the computed step is the stated one
    pub step_is : IsStep rule table assignment i (step_of rule table assignment i)
    unfolding step_of chosen_of
    step_is = go (takers table assignment i) takers_are candidate_taken
      where
        at : ℕ → Candidate
        at = candidate_at table assignment i

        go :
            (ms : List ℕ)
            → All (λ m. IsCandidate table assignment i (at m)) ms
            → ((c : Candidate) → IsCandidate table assignment i c → Memᴰ c.core ms)
            → IsStep rule table assignment i (chosen_of rule (map at ms))
        go [] are every = λ c h. Memᴰ.not-nil (every c h)
        go (m ∷ ms) are every =
            let chosen = none_preferred rule is-rule (at m) (map at ms) in
            let taker = mem_of_map at (m ∷ ms) chosen.attained in
            record {
              choice = best rule (at m) (map at ms);
              its_core = refl;
              is_candidate = subst (IsCandidate table assignment i) taker.value (all_at (λ m. IsCandidate table assignment i (at m)) taker.among are);
              none_preferred = λ c h. chosen.over_all c (subst (λ d. Memᴰ d (map at (m ∷ ms))) (candidate_computed c h) (mem_map at (every c h)));
            }
