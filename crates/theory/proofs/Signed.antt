-- Where the theory crosses from natural to signed numbers: slack, quotient, and the order of signed numbers.
use mathlib.Core.Path.{◌≡◌, refl, sym, ap, subst}
use Prim.Native.Nat.{ℕ, zero, suc, ◌+◌, ◌-◌, ◌*◌, ◌/◌, ◌≤◌, ◌<◌}
use mathlib.Core.Bool.{Bool, true, false, cond}
use mathlib.Core.Logic.{◌↔◌}
use native.Mathlib.Omega.{arith}
use native.Mathlib.Nat.{le_trans, le_antisymm, le-div_iff_mul-le, div-lt_iff_lt-mul, suc-mul, le_of_suc-le-suc}
use borrow.Author.Tests.{ltb-true, ltb-false, leb-true, leb-false, lt-ltb, le-ltb}
use lib.Dec.{T, leb, ltb, leb→le, le→leb}
use lib.IntN.{ℤ, pos, negsuc, neg_ℤ, ◌-ℤ◌, ◌*ℤ◌}
use lib.Signed.{le_z, ◌≤ℤ◌}
use Rattle.theory.specs.Points.{floor_div}

-- ---- the order

pub ≤ℤ-trans : (a b c : ℤ) → a ≤ℤ b → b ≤ℤ c → a ≤ℤ c
≤ℤ-trans a b c h k = record { le = go a b c h.le k.le }
  where
    go : (a b c : ℤ) → T (le_z a b) → T (le_z b c) → T (le_z a c)
    go (pos a) (pos b) (pos c) h k = le→leb a c (le_trans (leb→le a b h) (leb→le b c k))
    go (pos a) (pos b) (negsuc c) h k = k
    go (pos a) (negsuc b) c h k = absurd h
    go (negsuc a) (pos b) (pos c) h k = tt
    go (negsuc a) (pos b) (negsuc c) h k = absurd k
    go (negsuc a) (negsuc b) (pos c) h k = tt
    go (negsuc a) (negsuc b) (negsuc c) h k = le→leb c a (le_trans (leb→le c b k) (leb→le b a h))

pub ≤ℤ-antisymm : (a b : ℤ) → a ≤ℤ b → b ≤ℤ a → a ≡ b
≤ℤ-antisymm a b h k = go a b h.le k.le
  where
    go : (a b : ℤ) → T (le_z a b) → T (le_z b a) → a ≡ b
    go (pos a) (pos b) h k = ap pos (le_antisymm (leb→le a b h) (leb→le b a k))
    go (pos a) (negsuc b) h k = absurd h
    go (negsuc a) (pos b) h k = absurd k
    go (negsuc a) (negsuc b) h k = ap negsuc (le_antisymm (leb→le a b k) (leb→le b a h))

-- where the test fails, the order is the other way
pub leZ_fails : (a b : ℤ) → le_z a b ≡ false → b ≤ℤ a
leZ_fails a b e = record { le = go a b e }
  where
    go : (a b : ℤ) → le_z a b ≡ false → T (le_z b a)
    go (pos a) (pos b) e = le→leb b a (omega (arith, leb-false a b e))
    go (pos a) (negsuc b) e = tt
    go (negsuc a) (pos b) e = let z : ◌≡◌ {A = ℕ} 0 1 = cc in omega arith
    go (negsuc a) (negsuc b) e = le→leb a b (omega (arith, leb-false b a e))

pub leZ_passes : (a b : ℤ) → le_z a b ≡ true → a ≤ℤ b
leZ_passes a b e = record { le = subst (λ (t : Bool). T t) (sym e) tt }

-- natural numbers keep their order
pub pos_le : {a b : ℕ} → a ≤ b → pos a ≤ℤ pos b
pos_le {a} {b} h = record { le = le→leb a b h }

pub le_pos : (a b : ℕ) → pos a ≤ℤ pos b → a ≤ b
le_pos a b h = leb→le a b h.le

-- a whole number that is at least a, and not at least one more, is a
pub pos_exactly : (a : ℕ) (z : ℤ) → pos a ≤ℤ z → (pos (suc a) ≤ℤ z → ⊥) → z ≡ pos a
pos_exactly a (pos n) h no_more = ap pos (go (leb (suc a) n) refl)
  where
    go : (b : Bool) → leb (suc a) n ≡ b → n ≡ a
    go true e = absurd (no_more (pos_le (leb-true (suc a) n e)))
    go false e = omega (arith, leb-false (suc a) n e, le_pos a n h)
pos_exactly a (negsuc n) h no_more = absurd h.le

-- ---- the quotient is rounded towards minus infinity

negated : (x : ℕ) → 0 < x → neg_ℤ (pos x) ≡ negsuc (x - 1)
negated zero h = absurd (omega arith)
negated (suc x) h = ap negsuc (omega arith)

-- the quotient is the largest q with q × m ≤ z
pub floor_div_largest : (z q : ℤ) (m : ℕ) → 0 < m → (q ≤ℤ floor_div z m) ↔ ((q *ℤ pos m) ≤ℤ z)
unfolding floor_div
floor_div_largest (pos n) (pos a) m h =
    (λ e. pos_le ((le-div_iff_mul-le h).0 (le_pos a (n / m) e)), λ e. pos_le ((le-div_iff_mul-le h).1 (le_pos (a * m) n e)))
floor_div_largest (negsuc n) (pos a) m h = (λ e. absurd e.le, λ e. absurd e.le)
floor_div_largest (pos n) (negsuc a) m h = (λ e. rw (negated (suc a * m) (omega (arith, suc-mul a m))) (record { le = tt }), λ e. record { le = tt })
floor_div_largest (negsuc n) (negsuc a) m h = (
  λ e. rw (negated (suc a * m) some) (record { le = le→leb n (suc a * m - 1) (omega (arith, some, less.0 (le→lt (leb→le (n / m) a e.le)))) }),
  λ e. record { le = le→leb (n / m) a (le_of_suc-le-suc (less.1 (bound (rw (negated (suc a * m) some) at e)))) },
)
  where
    some : 0 < suc a * m
    some = omega (arith, suc-mul a m)

    less : (n / m < suc a) ↔ (n < suc a * m)
    less = div-lt_iff_lt-mul h

    le→lt : n / m ≤ a → n / m < suc a
    le→lt e = omega arith

    bound : negsuc (suc a * m - 1) ≤ℤ negsuc n → n < suc a * m
    bound e = omega (arith, some, leb→le n (suc a * m - 1) e.le)

-- ---- the difference of a time and a load

pub difference : (t l : ℕ) → l ≤ t → pos t -ℤ pos l ≡ pos (t - l)
difference t zero h = ap pos (omega arith)
difference t (suc l) h = ap (λ (b : Bool). cond b (negsuc (suc l - suc t)) (pos (t - suc l))) (le-ltb t (suc l) h)

pub shortfall : (t l : ℕ) → t < l → pos t -ℤ pos l ≡ negsuc (l - suc t)
shortfall t zero h = absurd (omega arith)
shortfall t (suc l) h = ap (λ (b : Bool). cond b (negsuc (suc l - suc t)) (pos (t - suc l))) (lt-ltb t (suc l) h)

-- slack is not negative exactly when the load is at most the time
pub slack_left : (t l : ℕ) → (pos 0 ≤ℤ (pos t -ℤ pos l)) ↔ (l ≤ t)
slack_left t l = go (ltb t l) refl
  where
    go : (b : Bool) → ltb t l ≡ b → (pos 0 ≤ℤ (pos t -ℤ pos l)) ↔ (l ≤ t)
    go true e = rw (shortfall t l (ltb-true t l e)) (λ n. absurd n.le, λ k. absurd (omega (arith, ltb-true t l e)))
    go false e = rw (difference t l (ltb-false t l e)) (λ n. ltb-false t l e, λ k. pos_le (omega arith))

-- the quotient is at least a exactly when the load with a × m more is at most the time
pub quotient_covers : (t l a m : ℕ) → 0 < m → (pos a ≤ℤ floor_div (pos t -ℤ pos l) m) ↔ (l + a * m ≤ t)
unfolding floor_div
quotient_covers t l a m h = go (ltb t l) refl
  where
    go : (b : Bool) → ltb t l ≡ b → (pos a ≤ℤ floor_div (pos t -ℤ pos l) m) ↔ (l + a * m ≤ t)
    go true e = rw (shortfall t l (ltb-true t l e)) (λ n. absurd n.le, λ k. absurd (omega (arith, ltb-true t l e)))
    go false e =
        rw (difference t l (ltb-false t l e)) (
          λ n. omega (arith, (le-div_iff_mul-le h).0 (le_pos a ((t - l) / m) n), ltb-false t l e),
          λ k. pos_le ((le-div_iff_mul-le h).1 (omega arith)),
        )
