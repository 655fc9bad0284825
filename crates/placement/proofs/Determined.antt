-- A placement is determined: by a rule of choice its moments are one after the other, and a table has one certificate.
use mathlib.Core.Path.{◌≡◌, refl, sym, ap, ◌∙◌, subst, subst₂}
use Prim.Native.Nat.{ℕ, suc, ◌≤◌, ◌<◌}
use native.Mathlib.Omega.{arith}
use mathlib.Core.Logic.{◌⊎◌, inl, inr, ◌↔◌}
use mathlib.Core.List.{List, [], ◌∷◌}
use lib.Dec.{T}
use lib.ListN.{length, set}
use Rattle.theory.specs.Gather.{All}
use Rattle.theory.proofs.Tests.{equal_or_not, order_cases}
use Rattle.placement.specs.Core.{Table}
use Rattle.placement.specs.Order.{taken}
use Rattle.placement.specs.Choice.{Rule, IsRule, IsChosen, NoCandidate}
use Rattle.placement.specs.Placement.{Moment, start, step, Stopped}
use Rattle.placement.specs.Figures.{Figures, AreFigures, Certified, Certificate, certified, no_core_takes, IsCertificate}
use Rattle.placement.proofs.Moment.{underway}
use Rattle.placement.proofs.Certified.{all_figures_unique}

-- two moments are one
pub record SameMoment (a xs b ys : List ℕ) : Type 0 where
  pub same_assignment : a ≡ b
  pub same_left : xs ≡ ys

-- what holds at a moment holds at the same
pub holds_at_same : (Q : List ℕ → List ℕ → Type 0) {a xs b ys : List ℕ} → SameMoment a xs b ys → Q b ys → Q a xs
holds_at_same Q s h = subst₂ Q (sym s.same_assignment) (sym s.same_left) h

-- at no moment are more rows left than the table has
pub left_at_most : (rule : Rule) (table : Table) {a xs : List ℕ} → Moment rule table a xs → length xs ≤ length (taken table.rows)
left_at_most rule table start = omega arith
left_at_most rule table (step p c) = omega (arith, left_at_most rule table p)

module _ (rule : Rule) (is-rule : IsRule rule) (table : Table) where
  -- a row goes to one core
  pub chosen_once : (a : List ℕ) (i m n : ℕ) → IsChosen rule table a i m → IsChosen rule table a i n → m ≡ n
  chosen_once a i m n c d = go (equal_or_not c.choice.core d.choice.core)
    where
      preferred : T (rule c.choice d.choice) ⊎ T (rule d.choice c.choice) → ⊥
      preferred (inl t) = d.none_preferred c.choice c.is_candidate t
      preferred (inr t) = c.none_preferred d.choice d.is_candidate t

      go : (c.choice.core ≡ d.choice.core) ⊎ (c.choice.core ≡ d.choice.core → ⊥) → m ≡ n
      go (inl e) = sym c.its_core ∙ e ∙ d.its_core
      go (inr e) = absurd (preferred (is-rule.decides c.choice d.choice e))

  -- the same step from one moment comes to one moment
  same_step :
      {a xs b ys : List ℕ} {i j m n : ℕ}
      → SameMoment a (i ∷ xs) b (j ∷ ys)
      → IsChosen rule table a i m
      → IsChosen rule table b j n
      → SameMoment (set a i m) xs (set b j n) ys
  same_step {a} {xs} {b} {ys} {i} {j} {m} {n} s c d = record { same_assignment = cc (assignment, row, core); same_left = same_tail }
    where
      assignment : a ≡ b
      assignment = s.same_assignment

      row : i ≡ j
      row = cc s.same_left

      same_tail : xs ≡ ys
      same_tail = cc s.same_left

      core : m ≡ n
      core = chosen_once b j m n (subst₂ (λ x k. IsChosen rule table x k m) assignment row c) d

  -- moments with as many rows left are one
  pub moments_equal : {a xs b ys : List ℕ} → Moment rule table a xs → Moment rule table b ys → length xs ≡ length ys → SameMoment a xs b ys
  moments_equal start start e = record { same_assignment = refl; same_left = refl }
  moments_equal start (step q d) e = absurd (omega (arith, left_at_most rule table q))
  moments_equal (step p c) start e = absurd (omega (arith, left_at_most rule table p))
  moments_equal (step p c) (step q d) e = same_step (moments_equal p q (ap suc e)) c d

  -- What holds at a moment and is kept by every step holds at every moment with no more rows left.
  pub from_moment :
      (Q : List ℕ → List ℕ → Type 0)
      → ((a : List ℕ) (i : ℕ) (xs : List ℕ) (m : ℕ) → Q a (i ∷ xs) → IsChosen rule table a i m → Q (set a i m) xs)
      → {b ys : List ℕ}
      → Moment rule table b ys
      → Q b ys
      → {a xs : List ℕ}
      → Moment rule table a xs
      → length xs ≤ length ys
      → Q a xs
  from_moment Q kept {b} {ys} q h start e = holds_at_same Q (moments_equal start q (omega (arith, left_at_most rule table q))) h
  from_moment Q kept {b} {ys} q h (step {assignment = a} {i = i} {rest = xs} {m = m} p c) e = go (order_cases (length xs) (length ys)) (λ l. from_moment Q kept q h p l)
    where
      go : (length xs < length ys) ⊎ (length xs ≡ length ys) ⊎ (length ys < length xs) → (suc (length xs) ≤ length ys → Q a (i ∷ xs)) → Q (set a i m) xs
      go (inl l) f = kept a i xs m (f l) c
      go (inr (inl l)) f = holds_at_same Q (moments_equal (step p c) q l) h
      go (inr (inr l)) f = absurd (omega arith)

  -- a moment at which no core takes the next row is the last
  pub stopped_is_last :
      (b : List ℕ) (i : ℕ) (ys : List ℕ)
      → Moment rule table b (i ∷ ys)
      → NoCandidate table b i
      → (a xs : List ℕ)
      → Moment rule table a xs
      → length xs ≤ suc (length ys)
      → SameMoment a xs b (i ∷ ys)
  stopped_is_last b i ys q none a xs p e = from_moment (λ x zs. SameMoment x zs b (i ∷ ys)) kept q (record { same_assignment = refl; same_left = refl }) p e
    where
      kept : (x : List ℕ) (j : ℕ) (zs : List ℕ) (m : ℕ) → SameMoment x (j ∷ zs) b (i ∷ ys) → IsChosen rule table x j m → SameMoment (set x j m) zs b (i ∷ ys)
      kept x j zs m s c = absurd (none moved.choice moved.is_candidate)
        where
          row : j ≡ i
          row = cc s.same_left

          moved : IsChosen rule table b i m
          moved = subst₂ (λ y k. IsChosen rule table y k m) s.same_assignment row c

  -- with row i the next to be taken at a moment, the certificate is that no core takes it exactly when none is a candidate for it then
  pub refused_exactly :
      (a : List ℕ) (i : ℕ) (xs : List ℕ)
      → Moment rule table a (i ∷ xs)
      → IsCertificate rule table (no_core_takes i) ↔ NoCandidate table a i
  refused_exactly a i xs p = (λ s. go s (order_cases (length s.rest) (length xs)), λ none. record { assignment = a; rest = xs; moment = p; no_candidate = none })
    where
      last : (s : Stopped rule table i) → length xs ≤ length s.rest → NoCandidate table a i
      last s l = subst (λ b. NoCandidate table b i) (sym (stopped_is_last s.assignment i s.rest s.moment s.no_candidate a (i ∷ xs) p (omega arith)).same_assignment) s.no_candidate

      -- at a later moment row i is not among those left
      Gone : List ℕ → List ℕ → Type 0
      Gone b ys = (ys ≡ i ∷ xs) ⊎ All (λ j. i ≡ j → ⊥) ys

      kept : (b : List ℕ) (j : ℕ) (ys : List ℕ) (m : ℕ) → Gone b (j ∷ ys) → IsChosen rule table b j m → Gone (set b j m) ys
      kept b j ys m (inl e) c = let tail : xs ≡ ys = cc in inr (subst (All (λ j. i ≡ j → ⊥)) tail (underway rule table p).left_once.0)
      kept b j ys m (inr h) c = inr h.1

      gone : (s : Stopped rule table i) → length s.rest < length xs → Gone s.assignment (i ∷ s.rest) → ⊥
      gone s l (inl e) = omega (arith, ap length e)
      gone s l (inr h) = h.0 refl

      go :
          (s : Stopped rule table i)
          → (length s.rest < length xs) ⊎ (length s.rest ≡ length xs) ⊎ (length xs < length s.rest)
          → NoCandidate table a i
      go s (inl l) = absurd (gone s l (from_moment Gone kept p (inl refl) s.moment (omega arith)))
      go s (inr (inl l)) = last s (omega arith)
      go s (inr (inr l)) = last s (omega arith)

  -- no table is both accepted and refused
  accepted_or_refused : (all : List Figures) (i : ℕ) → Certified rule table all → Stopped rule table i → ⊥
  accepted_or_refused all i c s = omega (arith, ap length (stopped_is_last s.assignment i s.rest s.moment s.no_candidate c.assignment [] c.placed (omega arith)).same_left)

  -- no table is refused at two rows
  refused_at_one : (i j : ℕ) → Stopped rule table i → Stopped rule table j → i ≡ j
  refused_at_one i j s t = go (order_cases (length s.rest) (length t.rest))
    where
      earlier : (i j : ℕ) (s : Stopped rule table i) (t : Stopped rule table j) → length s.rest ≤ length t.rest → i ≡ j
      earlier i j s t l = let same = stopped_is_last t.assignment j t.rest t.moment t.no_candidate s.assignment (i ∷ s.rest) s.moment (omega arith) in cc same.same_left

      go : (length s.rest < length t.rest) ⊎ (length s.rest ≡ length t.rest) ⊎ (length t.rest < length s.rest) → i ≡ j
      go (inl l) = earlier i j s t (omega arith)
      go (inr (inl l)) = earlier i j s t (omega arith)
      go (inr (inr l)) = sym (earlier j i t s (omega arith))

  -- a table has one certificate
  pub certificate_unique : (x y : Certificate) → IsCertificate rule table x → IsCertificate rule table y → x ≡ y
  certificate_unique (certified f) (certified g) p q = ap certified (all_figures_unique table.rows p.assignment f g p.are_figures (subst (λ a. AreFigures table.rows a g) (sym (moments_equal p.placed q.placed refl).same_assignment) q.are_figures))
  certificate_unique (certified f) (no_core_takes j) p q = absurd (accepted_or_refused f j p q)
  certificate_unique (no_core_takes i) (certified g) p q = absurd (accepted_or_refused g i q p)
  certificate_unique (no_core_takes i) (no_core_takes j) p q = ap no_core_takes (refused_at_one i j p q)
