-- A reading is one table or one refusal, whatever was read, and a table has one certificate.
use mathlib.Core.Path.{◌≡◌, subst}
use Prim.Native.Nat.{ℕ}
use mathlib.Core.List.{List}
use native.Mathlib.Omega.{arith}
use Rattle.placement.specs.Core.{Table}
use Rattle.placement.specs.Choice.{Rule, IsRule}
use Rattle.placement.specs.Placement.{Stopped}
use Rattle.placement.specs.Figures.{Figures, Certificate, certified, no_core_takes, Certified, IsCertificate}
use Rattle.placement.proofs.Determined.{certificate_unique}
use Rattle.records.specs.Reading.{Reading, table, refused}

module _ {reading : Reading} where
  pub one_table : {t u : Table} → reading ≡ table t → reading ≡ table u → t ≡ u
  one_table p q = cc

  pub one_refusal : {a b x y : ℕ} → reading ≡ refused a x → reading ≡ refused b y → (a ≡ b) × (x ≡ y)
  one_refusal p q = (cc, cc)

  pub not_both : {X : Type 0} {t : Table} {a x : ℕ} → reading ≡ table t → reading ≡ refused a x → X
  not_both p q = absurd (let z : ◌≡◌ {A = ℕ} 0 1 = cc in omega arith)

  module _ {rule : Rule} (is-rule : IsRule rule) where
    one_certificate : {t u : Table} (c d : Certificate) → reading ≡ table t → reading ≡ table u → IsCertificate rule t c → IsCertificate rule u d → c ≡ d
    one_certificate {t} c d p q is_c is_d = certificate_unique rule is-rule t c d is_c (subst (λ (x : Table). IsCertificate rule x d) (one_table q p) is_d)

    pub one_stop : {t u : Table} {i j : ℕ} → reading ≡ table t → reading ≡ table u → Stopped rule t i → Stopped rule u j → i ≡ j
    one_stop {i = i} {j = j} p q s r = let e : no_core_takes i ≡ no_core_takes j = one_certificate (no_core_takes i) (no_core_takes j) p q s r in cc

    pub one_list : {t u : Table} {all others : List Figures} → reading ≡ table t → reading ≡ table u → Certified rule t all → Certified rule u others → all ≡ others
    one_list {all = all} {others = others} p q c d = let e : certified all ≡ certified others = one_certificate (certified all) (certified others) p q c d in cc

    pub not_certified : {X : Type 0} {t u : Table} {i : ℕ} {all : List Figures} → reading ≡ table t → reading ≡ table u → Stopped rule t i → Certified rule u all → X
    not_certified {i = i} {all = all} p q s c =
        absurd (let e : no_core_takes i ≡ certified all = one_certificate (no_core_takes i) (certified all) p q s c in let z : ◌≡◌ {A = ℕ} 0 1 = cc in omega arith)
