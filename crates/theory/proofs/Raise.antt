-- What raising row i by a does to row k: its points stay, and its load at t grows by a for each time that it counts C of row i.
use mathlib.Core.Path.{◌≡◌, refl, sym, ◌∙◌, ap, fun_ext, subst}
use Prim.Native.Nat.{ℕ, zero, suc, ◌+◌, ◌*◌, ◌<◌}
use mathlib.Core.Bool.{Bool, true, false}
use mathlib.Core.Logic.{◌↔◌, ◌⊎◌, inl, inr, ⊎_elim}
use mathlib.Core.List.{List, [], ◌∷◌, map}
use native.Mathlib.Omega.{arith}
use native.Mathlib.Nat.{mul-add, mul_comm, mul-zero, mul-one}
use borrow.Author.Tests.{eqb-true, eqb-false, eq-eqb}
use lib.Dec.{T, eqb}
use lib.ListN.{length, length-set, length-map}
use lib.Seq.{get_or-set_same, get_or-set_other}
use Rattle.theory.specs.Row.{Row, row_at}
use Rattle.theory.specs.Gather.{less_or_tied, sum, keep, sort, up_from}
use Rattle.theory.specs.Rank.{places, above, rival, rivals, levels}
use Rattle.theory.specs.Response.{ceil, own, demand, load}
use Rattle.theory.specs.Allowance.{longer, raised}
use Rattle.theory.specs.Points.{walk, points, times, touches}
use Rattle.theory.proofs.Each.{all_map, T_true, T_false}
use Rattle.theory.proofs.Sum.{only, only_there, only_elsewhere, sum_without, sum_with}
use Rattle.theory.proofs.Walk.{walk_by_periods}
use Rattle.theory.proofs.Demand.{ask}
use Rattle.theory.proofs.Tests.{or_cases, or_first, or_second, equal_or_not}
use Rattle.theory.proofs.Rank.{rival_irreflexive, mem_rivals, all_rivals, rivals_ascending}

-- a raised set has the rows that it had
pub raised_in_set : (rows : List Row) (i a : ℕ) {k : ℕ} → (k < length (raised rows i a)) ↔ (k < length rows)
raised_in_set rows i a {k} =
    (subst (λ (n : ℕ). k < n) (length-set rows i (longer (row_at rows i) a)), subst (λ (n : ℕ). k < n) (sym (length-set rows i (longer (row_at rows i) a))))

module _ (rows : List Row) (i a : ℕ) (inside : i < length rows) where
  abbrev after : List Row
  after = raised rows i a

  -- row i is longer by a, and no other row by anything
  pub raised_row : (h : ℕ) → row_at after h ≡ longer (row_at rows h) (only i a h)
  raised_row h = ⊎_elim there elsewhere (equal_or_not h i)
    where
      there : h ≡ i → row_at after h ≡ longer (row_at rows h) (only i a h)
      there e =
          ap (λ (x : ℕ). row_at after x) e
          ∙ get_or-set_same rows i (longer (row_at rows i) a) (record { C = 0; D = 0; T = 0 }) inside
          ∙ ap (λ (x : ℕ). longer (row_at rows x) a) (sym e)
          ∙ ap (longer (row_at rows h)) (sym (only_there i a h e))

      elsewhere : (h ≡ i → ⊥) → row_at after h ≡ longer (row_at rows h) (only i a h)
      elsewhere d =
          get_or-set_other rows i h (longer (row_at rows i) a) (record { C = 0; D = 0; T = 0 }) d
          ∙ ap (λ (c : ℕ). record { C = c; D = (row_at rows h).D; T = (row_at rows h).T }) (omega (arith, only_elsewhere i a h d))

  -- so rank and rivals stay
  pub above_stays : above after ≡ above rows
  above_stays =
      fun_ext (λ h. fun_ext (λ k.
      ap (λ (d : ℕ). less_or_tied d (row_at after k).D h k) (ap (λ (r : Row). r.D) (raised_row h))
      ∙ ap (λ (d : ℕ). less_or_tied (row_at rows h).D d h k) (ap (λ (r : Row). r.D) (raised_row k))))

  rivals_stay : (k : ℕ) → rivals after k ≡ rivals rows k
  unfolding rivals
  rivals_stay k =
      ap (λ (relation : ℕ → ℕ → Bool). keep (λ h. relation h k) (places after)) above_stays
      ∙ ap (λ (n : ℕ). keep (λ h. above rows h k) (up_from 0 n)) (length-set rows i (longer (row_at rows i) a))

  -- and so do the points
  periods_stay : (hs : List ℕ) (j : ℕ) → (row_at (map (row_at after) hs) j).T ≡ (row_at (map (row_at rows) hs) j).T
  periods_stay [] j = refl
  periods_stay (h ∷ hs) zero = ap (λ (r : Row). r.T) (raised_row h)
  periods_stay (h ∷ hs) (suc j) = periods_stay hs j

  pub points_stay : (k : ℕ) → points after k ≡ points rows k
  unfolding points levels
  points_stay k =
      let hs = sort (above rows) (rivals rows k) in
      ap (λ (gs : List ℕ). walk (map (row_at after) gs) (length (map (row_at after) gs)) (row_at after k).D) ranked_stay
      ∙ walk_by_periods (map (row_at after) hs) (map (row_at rows) hs) (periods_stay hs) (length (map (row_at after) hs)) (row_at after k).D
      ∙ ap (λ (n : ℕ). walk (map (row_at rows) hs) n (row_at after k).D) (length-map hs (row_at after) ∙ sym (length-map hs (row_at rows)))
      ∙ ap (λ (d : ℕ). walk (map (row_at rows) hs) (length (map (row_at rows) hs)) d) (ap (λ (r : Row). r.D) (raised_row k))
    where
      ranked_stay : sort (above after) (rivals after k) ≡ sort (above rows) (rivals rows k)
      ranked_stay = ap (λ (relation : ℕ → ℕ → Bool). sort relation (rivals after k)) above_stays ∙ ap (sort (above rows)) (rivals_stay k)

  -- what one row asks for grows by a × ceil where it is row i
  ask_grows : (h t : ℕ) → ask (row_at after h) t ≡ ask (row_at rows h) t + only i (a * ceil t (row_at rows i).T) h
  ask_grows h t =
      ap (λ (r : Row). ask r t) (raised_row h)
      ∙ mul-add (ceil t (row_at rows h).T) (row_at rows h).C (only i a h)
      ∙ ap (λ (n : ℕ). ask (row_at rows h) t + n) (⊎_elim there elsewhere (equal_or_not h i))
    where
      there : h ≡ i → ceil t (row_at rows h).T * only i a h ≡ only i (a * ceil t (row_at rows i).T) h
      there e =
          ap (λ (n : ℕ). ceil t (row_at rows h).T * n) (only_there i a h e)
          ∙ mul_comm (ceil t (row_at rows h).T) a
          ∙ ap (λ (x : ℕ). a * ceil t (row_at rows x).T) e
          ∙ sym (only_there i (a * ceil t (row_at rows i).T) h e)

      elsewhere : (h ≡ i → ⊥) → ceil t (row_at rows h).T * only i a h ≡ only i (a * ceil t (row_at rows i).T) h
      elsewhere d =
          ap (λ (n : ℕ). ceil t (row_at rows h).T * n) (only_elsewhere i a h d)
          ∙ mul-zero (ceil t (row_at rows h).T)
          ∙ sym (only_elsewhere i (a * ceil t (row_at rows i).T) h d)

  demand_grows : (hs : List ℕ) (t : ℕ) → demand after hs t ≡ demand rows hs t + sum (only i (a * ceil t (row_at rows i).T)) hs
  unfolding demand sum
  demand_grows [] t = refl
  demand_grows (h ∷ hs) t = omega (arith, ask_grows h t, demand_grows hs t)

  -- row k's load grows where k is i, and where i is among its rivals
  load_grows : (k t : ℕ) → load after k t ≡ load rows k t + (only i a k + sum (only i (a * ceil t (row_at rows i).T)) (rivals rows k))
  unfolding load
  load_grows k t =
      omega (
        arith,
        ap (λ (r : Row). own r) (raised_row k),
        ap (λ (hs : List ℕ). demand after hs t) (rivals_stay k),
        demand_grows (rivals rows k) t,
      )

  no_rival : (k x : ℕ) → (T (rival rows i k) → ⊥) → sum (only i x) (rivals rows k) ≡ 0
  no_rival k x no-i =
      sum_without i x (rivals rows k) (all_map (rivals rows k) (λ h r e. no-i (subst (λ (y : ℕ). T (rival rows y k)) e r.1)) (all_rivals rows k))

  one_rival : (k x : ℕ) → T (rival rows i k) → sum (only i x) (rivals rows k) ≡ x
  one_rival k x r = sum_with i x (mem_rivals rows i k inside r) (rivals_ascending rows k)

  -- row k's load counts C of row i as often as the quotient's divisor says
  pub load_of_touched : (k t : ℕ) → T (touches rows i k) → load after k t ≡ load rows k t + a * times rows k i t
  unfolding times
  load_of_touched k t touched = go (eqb k i) refl (or_cases (eqb k i) (rival rows i k) touched)
    where
      x : ℕ
      x = a * ceil t (row_at rows i).T

      go : (b : Bool) → eqb k i ≡ b → T (eqb k i) ⊎ T (rival rows i k) → load after k t ≡ load rows k t + a * times rows k i t
      go true e c =
          let there : k ≡ i = eqb-true k i e in
          rw (e, times)
          (omega (
            arith,
            load_grows k t,
            only_there i a k there,
            no_rival k x (λ r. rival_irreflexive rows i (subst (λ (y : ℕ). T (rival rows i y)) there r)),
            mul-one a,
          ))
      go false e (inl same) = absurd (T_false (eqb k i) e same)
      go false e (inr r) = rw (e, times) (omega (arith, load_grows k t, only_elsewhere i a k (eqb-false k i e), one_rival k x r))

  -- and not at all where raising row i does not touch row k
  pub load_of_untouched : (k t : ℕ) → (T (touches rows i k) → ⊥) → load after k t ≡ load rows k t
  load_of_untouched k t untouched =
      omega (
        arith,
        load_grows k t,
        only_elsewhere i a k (λ e. untouched (or_first (eqb k i) (rival rows i k) (T_true (eqb k i) (eq-eqb k i e)))),
        no_rival k (a * ceil t (row_at rows i).T) (λ r. untouched (or_second (eqb k i) (rival rows i k) r)),
      )
