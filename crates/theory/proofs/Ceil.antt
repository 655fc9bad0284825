-- The laws of the ceiling, and of the largest multiple not above a time.
use mathlib.Core.Path.{◌≡◌}
use Prim.Native.Nat.{ℕ, zero, suc, ◌+◌, ◌-◌, ◌*◌, ◌/◌, ◌≤◌, ◌<◌}
use native.Mathlib.Nat.{div-zero, div-lt_iff_lt-mul, lt-div-mul-add, div-mul-le_self, le-div_iff_mul-le, mul-le-mul_left, mul-le-mul_right, add-mul, le_of_suc-le-suc, le_trans, le_antisymm, lt_of_lt_of_le, lt_of_mul-lt-mul_right, zero-mul, one-mul, suc-mul}
use native.Mathlib.Omega.{arith}
use Rattle.theory.specs.Response.{ceil}
use Rattle.theory.specs.Points.{last_multiple}

-- the ceiling is enough
pub le_ceil : (t : ℕ) {m : ℕ} → 0 < m → t ≤ ceil t m * m
unfolding ceil
le_ceil t {m} h = omega (arith, lt-div-mul-add {a = t + (m - 1)} h)

-- the ceiling is the least that is enough
pub ceil_le : (t c : ℕ) {m : ℕ} → 0 < m → t ≤ c * m → ceil t m ≤ c
unfolding ceil
ceil_le t c {m} h e = le_of_suc-le-suc ((div-lt_iff_lt-mul h).1 (omega arith))

ceil_zero : (t : ℕ) → ceil t 0 ≡ 0
unfolding ceil
ceil_zero t = div-zero (t + (0 - 1))

pub ceil_mono : (m : ℕ) {s t : ℕ} → s ≤ t → ceil s m ≤ ceil t m
ceil_mono zero {s} {t} h = omega (arith, ceil_zero s, ceil_zero t)
ceil_mono (suc m) {s} {t} h = ceil_le s (ceil t (suc m)) (omega arith) (le_trans h (le_ceil t (omega arith)))

-- a longer period has no more jobs
pub ceil_longer : (t : ℕ) {m n : ℕ} → 1 ≤ m → m ≤ n → ceil t n ≤ ceil t m
ceil_longer t {m} {n} positive h = ceil_le t (ceil t m) (omega arith) (le_trans (le_ceil t positive) (mul-le-mul_left (ceil t m) h))

pub ceil_subadditive : (m s t : ℕ) → ceil (s + t) m ≤ ceil s m + ceil t m
ceil_subadditive zero s t = omega (arith, ceil_zero (s + t), ceil_zero s, ceil_zero t)
ceil_subadditive (suc m) s t =
    ceil_le (s + t) (ceil s (suc m) + ceil t (suc m)) (omega arith)
    (omega (arith, le_ceil s {m = suc m} (omega arith), le_ceil t {m = suc m} (omega arith), add-mul (ceil s (suc m)) (ceil t (suc m)) (suc m)))

pub ceil_positive : (t : ℕ) {m : ℕ} → 0 < m → 1 ≤ t → 1 ≤ ceil t m
ceil_positive t {m} h p = go (ceil t m) (le_ceil t h)
  where
    go : (c : ℕ) → t ≤ c * m → 1 ≤ c
    go zero e = omega (arith, zero-mul m)
    go (suc c) e = omega arith

-- a time within a period is one job
pub ceil_one : (t : ℕ) {m : ℕ} → 1 ≤ t → t ≤ m → ceil t m ≡ 1
ceil_one t {m} p h = le_antisymm (ceil_le t 1 (omega arith) (omega (arith, one-mul m))) (ceil_positive t (omega arith) p)

-- the largest multiple not above t
pub multiple_below : (m t : ℕ) → last_multiple m t ≤ t
unfolding last_multiple
multiple_below m t = div-mul-le_self t m

pub multiple_largest : {m : ℕ} → 0 < m → (t c : ℕ) → c * m ≤ t → c * m ≤ last_multiple m t
unfolding last_multiple
multiple_largest {m} h t c e = mul-le-mul_right m ((le-div_iff_mul-le h).1 e)

-- behind the largest multiple the ceiling stays
pub ceil_behind : {m : ℕ} → 0 < m → {s t : ℕ} → last_multiple m t < s → s ≤ t → ceil s m ≡ ceil t m
unfolding last_multiple
ceil_behind {m} h {s} {t} l e =
    let more : t / m < ceil s m = lt_of_mul-lt-mul_right m (lt_of_lt_of_le l (le_ceil s h)) in
    let over : suc (t / m) * m ≤ ceil s m * m = mul-le-mul_right m more in
    le_antisymm (ceil_mono m e) (ceil_le t (ceil s m) h (omega (arith, lt-div-mul-add {a = t} h, suc-mul (t / m) m)))

-- up to a multiple the ceiling is at most its factor
pub ceil_upto : {m : ℕ} → 0 < m → (s t : ℕ) → s ≤ last_multiple m t → ceil s m ≤ t / m
unfolding last_multiple
ceil_upto h s t e = ceil_le s (t / _) h e
