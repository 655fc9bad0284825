-- What joined tests mean, the cases of two numbers, and the order with a rule for ties.
use mathlib.Core.Path.{◌≡◌, refl, sym, subst}
use Prim.Native.Nat.{ℕ, ◌≤◌, ◌<◌}
use mathlib.Core.Bool.{Bool, true, false, ◌&&◌, ◌||◌}
use mathlib.Core.Logic.{◌⊎◌, inl, inr, ⊎_elim}
use native.Mathlib.Omega.{arith}
use borrow.Author.Tests.{ltb-true, ltb-false, eqb-true, eqb-false}
use lib.Dec.{T, ltb, eqb, ltb→lt, lt→ltb, eqb→eq, eqb_refl}
use Rattle.theory.specs.Gather.{less_or_tied}

pub or_cases : (a b : Bool) → T (a || b) → T a ⊎ T b
or_cases true b t = inl tt
or_cases false b t = inr t

pub or_first : (a b : Bool) → T a → T (a || b)
or_first true b t = tt
or_first false b t = absurd t

pub or_second : (a b : Bool) → T b → T (a || b)
or_second true b t = tt
or_second false b t = t

pub and_both : (a b : Bool) → T a → T b → T (a && b)
and_both true b s t = t
and_both false b s t = absurd s

pub and_first : (a b : Bool) → T (a && b) → T a
and_first true b t = tt
and_first false b t = absurd t

pub and_second : (a b : Bool) → T (a && b) → T b
and_second true b t = t
and_second false b t = absurd t

-- two numbers are equal or are not
pub equal_or_not : (a b : ℕ) → (a ≡ b) ⊎ (a ≡ b → ⊥)
equal_or_not a b = go (eqb a b) refl
  where
    go : (t : Bool) → eqb a b ≡ t → (a ≡ b) ⊎ (a ≡ b → ⊥)
    go true e = inl (eqb-true a b e)
    go false e = inr (eqb-false a b e)

-- of two numbers one is below the other, or they are equal
pub order_cases : (a b : ℕ) → (a < b) ⊎ (a ≡ b) ⊎ (b < a)
order_cases a b = go (ltb a b) (ltb b a) refl refl
  where
    go : (p q : Bool) → ltb a b ≡ p → ltb b a ≡ q → (a < b) ⊎ (a ≡ b) ⊎ (b < a)
    go true q e f = inl (ltb-true a b e)
    go false true e f = inr (inr (ltb-true b a f))
    go false false e f = inr (inl (omega (arith, ltb-false a b e, ltb-false b a f)))

-- a is less than b; or they tie, and p is less than q
abbrev pub LessOrTied : ℕ → ℕ → ℕ → ℕ → Type 0
LessOrTied a b p q = (a < b) ⊎ ((a ≡ b) × (p < q))

-- where the test passes, so it is
pub less_or_tied_lem : (a b p q : ℕ) → T (less_or_tied a b p q) → LessOrTied a b p q
less_or_tied_lem a b p q t =
    ⊎_elim (λ l. inl (ltb→lt a b l))
    (λ s. inr (eqb→eq a b (and_first (eqb a b) (ltb p q) s), ltb→lt p q (and_second (eqb a b) (ltb p q) s)))
    (or_cases (ltb a b) (eqb a b && ltb p q) t)

-- where it is so, the test passes
pub passes_less_or_tied : (a b p q : ℕ) → LessOrTied a b p q → T (less_or_tied a b p q)
passes_less_or_tied a b p q (inl l) = or_first (ltb a b) (eqb a b && ltb p q) (lt→ltb a b l)
passes_less_or_tied a b p q (inr s) =
    or_second (ltb a b) (eqb a b && ltb p q)
    (and_both (eqb a b) (ltb p q) (subst (λ (c : ℕ). T (eqb a c)) s.0 (eqb_refl a)) (lt→ltb p q s.1))

-- where the test fails, a is not less; and where the two tie, p is not
pub not_less_or_tied : (a b p q : ℕ) → (T (less_or_tied a b p q) → ⊥) → (b ≤ a) × (a ≡ b → q ≤ p)
not_less_or_tied a b p q fails = (go (order_cases a b), λ e. tie e (order_cases p q))
  where
    go : (a < b) ⊎ (a ≡ b) ⊎ (b < a) → b ≤ a
    go (inl l) = absurd (fails (passes_less_or_tied a b p q (inl l)))
    go (inr (inl e)) = omega arith
    go (inr (inr l)) = omega arith

    tie : a ≡ b → (p < q) ⊎ (p ≡ q) ⊎ (q < p) → q ≤ p
    tie e (inl l) = absurd (fails (passes_less_or_tied a b p q (inr (e, l))))
    tie e (inr (inl f)) = omega arith
    tie e (inr (inr l)) = omega arith

-- the test does not pass both ways
pub tied_asymmetric : (a b p q : ℕ) → T (less_or_tied a b p q) → T (less_or_tied b a q p) → ⊥
tied_asymmetric a b p q s t = go (less_or_tied_lem a b p q s) (less_or_tied_lem b a q p t)
  where
    go : LessOrTied a b p q → LessOrTied b a q p → ⊥
    go (inl l) (inl m) = omega arith
    go (inl l) (inr m) = omega arith
    go (inr l) (inl m) = omega arith
    go (inr l) (inr m) = omega arith

-- of two that differ in what breaks a tie, one comes before the other
pub tied_connected : (a b p q : ℕ) → (p ≡ q → ⊥) → T (less_or_tied a b p q) ⊎ T (less_or_tied b a q p)
tied_connected a b p q differ = go (order_cases a b) (order_cases p q)
  where
    go : (a < b) ⊎ (a ≡ b) ⊎ (b < a) → (p < q) ⊎ (p ≡ q) ⊎ (q < p) → T (less_or_tied a b p q) ⊎ T (less_or_tied b a q p)
    go (inl l) y = inl (passes_less_or_tied a b p q (inl l))
    go (inr (inr l)) y = inr (passes_less_or_tied b a q p (inl l))
    go (inr (inl e)) (inl m) = inl (passes_less_or_tied a b p q (inr (e, m)))
    go (inr (inl e)) (inr (inl f)) = absurd (differ f)
    go (inr (inl e)) (inr (inr m)) = inr (passes_less_or_tied b a q p (inr (sym e, m)))

-- it goes on from one to the next where the comparison of the keys does: a and b, then c and d, and over both e and f
pub tied_chain :
    {a b c d e f p q r : ℕ}
    → LessOrTied a b p q
    → LessOrTied c d q r
    → (a < b → c ≤ d → e < f)
    → (a ≡ b → c < d → e < f)
    → (a ≡ b → c ≡ d → e ≡ f)
    → LessOrTied e f p r
tied_chain (inl l) (inl m) first second both = inl (first l (omega arith))
tied_chain (inl l) (inr m) first second both = inl (first l (omega arith))
tied_chain (inr l) (inl m) first second both = inl (second l.0 m)
tied_chain (inr l) (inr m) first second both = inr (both l.0 m.0, omega arith)
