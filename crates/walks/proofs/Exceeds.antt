-- Whether a quotient is greater than an entry, by a product and without a division; and that 64 bits hold the product.
use mathlib.Core.Path.{◌≡◌, refl, sym, ap, ap₂, ◌∙◌}
use Prim.Native.Nat.{ℕ, zero, suc, ◌*◌, ◌≤◌, ◌<◌, suc-le-suc}
use mathlib.Core.Bool.{Bool, true, false}
use native.Mathlib.Omega.{arith}
use native.Mathlib.Nat.{suc-mul, mul-le-mul_left, mul-le-mul_right}
use lib.Dec.{T, leb→le, leb-zero, leb-suc-zero, leb-suc-suc}
use lib.IntN.{ℤ, pos, negsuc, neg_ℤ, suc_ℤ, ◌+ℤ◌, ◌*ℤ◌, +ℤ_one}
use lib.Signed.{mag, le_z, lt_z}
use mir.Syntax.{w64}
use mir.Val.{SFits}
use mir.ValLaws.{to_z-of_z}
use Rattle.theory.specs.Points.{floor_div}
use Rattle.theory.proofs.Signed.{floor_div_largest}
use Rattle.walks.specs.Quotients.{InRange}
use Rattle.walks.proofs.Held.{held, held_as_it_is}

-- two tests that imply each other are the same
same_test : (a b : Bool) → (T a → T b) → (T b → T a) → a ≡ b
same_test true true there back = refl
same_test true false there back = absurd (there tt)
same_test false true there back = absurd (back tt)
same_test false false there back = refl

-- one more than a number is at most another exactly when the number is less
next_at_most : (b q : ℤ) → le_z (suc_ℤ b) q ≡ lt_z b q
next_at_most (pos b) (pos q) = refl
next_at_most (pos b) (negsuc q) = refl
next_at_most (negsuc zero) (pos q) = leb-zero q
next_at_most (negsuc zero) (negsuc q) = sym (leb-suc-zero q)
next_at_most (negsuc (suc b)) (pos q) = refl
next_at_most (negsuc (suc b)) (negsuc q) = sym (leb-suc-suc q b)

-- the quotient of z by m is greater than b exactly when one more than b, times m, is at most z
exceeds : (b z : ℤ) (m : ℕ) → 0 < m → le_z ((b +ℤ pos 1) *ℤ pos m) z ≡ lt_z b (floor_div z m)
exceeds b z m h =
    let largest = floor_div_largest z (b +ℤ pos 1) m h in
    same_test _ _ (λ t. (largest.1 (record { le = t })).le) (λ t. (largest.0 (record { le = t })).le)
    ∙ ap (λ (x : ℤ). le_z x (floor_div z m)) (+ℤ_one b)
    ∙ next_at_most b (floor_div z m)

-- a number in range, and one more than it
range_mag : (b : ℤ) → InRange b → mag b ≤ 49_999_999
range_mag (pos b) h = omega (arith, leb→le b 1_000_000 h.to_million.le)
range_mag (negsuc b) h = leb→le b 49_999_999 h.from_least.le

next_mag : (b : ℤ) → mag (suc_ℤ b) ≤ suc (mag b)
next_mag (pos b) = omega arith
next_mag (negsuc zero) = omega arith
next_mag (negsuc (suc b)) = omega arith

-- a product
downwards_mag : (n : ℕ) → mag (neg_ℤ (pos n)) ≤ n
downwards_mag zero = omega arith
downwards_mag (suc n) = omega arith

product_mag : (x : ℤ) (m : ℕ) → mag (x *ℤ pos m) ≤ suc (mag x) * m
product_mag (pos a) m = omega (arith, suc-mul a m)
product_mag (negsuc a) m = downwards_mag (suc a * m)

-- the test of an entry b with m jobs, step by step as 64 bits hold it
module _ {b : ℤ} (in-range : InRange b) {m : ℕ} (within : (1 ≤ m) × (m ≤ 1_000_000)) {jobs : ℤ} (is_m : jobs ≡ pos m) where
  -- one more than the entry
  pub next_is : held b +ℤ pos 1 ≡ b +ℤ pos 1
  next_is = ap (λ (x : ℤ). x +ℤ pos 1) (held_as_it_is b (omega (arith, range_mag b in-range)))

  pub next_small : mag (b +ℤ pos 1) ≤ 50_000_000
  next_small = rw (+ℤ_one b) (omega (arith, next_mag b, range_mag b in-range))

  -- times the jobs
  pub product_is : held (held b +ℤ pos 1) *ℤ held jobs ≡ (b +ℤ pos 1) *ℤ pos m
  product_is =
      ap₂ (λ (x y : ℤ). x *ℤ y)
      (ap held next_is ∙ held_as_it_is (b +ℤ pos 1) (omega (arith, next_small)))
      (ap held is_m ∙ held_as_it_is (pos m) (omega (arith, within.1)))

  pub product_small : SFits w64 ((b +ℤ pos 1) *ℤ pos m)
  product_small = record {
    sfits = omega (arith, product_mag (b +ℤ pos 1) m, mul-le-mul_right m (suc-le-suc next_small), mul-le-mul_left 50_000_001 within.1);
  }

  -- the test says whether the quotient is greater
  pub says_whether : {z : ℤ} → SFits w64 z
      → {passes : Bool}
      → le_z (held (held (held b +ℤ pos 1) *ℤ held jobs)) (held z) ≡ passes
      → lt_z b (floor_div z m) ≡ passes
  says_whether {z} z-fits {passes} e =
      sym (exceeds b z m within.0)
      ∙ sym (ap₂ le_z (ap held product_is ∙ to_z-of_z w64 ((b +ℤ pos 1) *ℤ pos m) product_small) (to_z-of_z w64 z z-fits))
      ∙ e
