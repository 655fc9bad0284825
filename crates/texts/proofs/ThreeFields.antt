-- Fields that are a row, and fields that hold names: what they are, and that no others are.
use mathlib.Core.Path.{◌≡◌, refl, sym, ap, subst, ◌∙◌}
use Prim.Native.Nat.{ℕ}
use mathlib.Core.Bool.{Bool, true, false, true≢false}
use mathlib.Core.List.{List, [], ◌∷◌}
use mathlib.Core.Option.{Option, none, some, IsSome, some-injective, none-ne-some}
use lib.Dec.{eqb}
use borrow.Author.Tests.{eqb-true, eq-eqb}
use Rattle.theory.specs.Row.{Row}
use Rattle.theory.proofs.Limits.{both_pass}
use Rattle.texts.specs.Text.{held, number_in, row_from, row_in, same_bytes, hold}

-- three numbers are a row
pub three_numbers_row : {fields : List (List ℕ)} {first second third : List ℕ} {c d t : ℕ}
    → fields ≡ first ∷ second ∷ third ∷ []
    → number_in (held first) ≡ some c → number_in (held second) ≡ some d → number_in (held third) ≡ some t
    → row_in fields ≡ some (record { C = c; D = d; T = t })
unfolding row_in row_from
three_numbers_row three is_c is_d is_t = ap row_in three ∙ rw (is_c, is_d, is_t)

-- fields that are a row: three, which hold its numbers
pub record ThreeNumbers (fields : List (List ℕ)) (row : Row) : Type 0 where
  pub first : List ℕ
  pub second : List ℕ
  pub third : List ℕ
  pub three : fields ≡ first ∷ second ∷ third ∷ []
  pub is_c : number_in (held first) ≡ some row.C
  pub is_d : number_in (held second) ≡ some row.D
  pub is_t : number_in (held third) ≡ some row.T

-- three numbers that are a row are its own
own_numbers : (c d t : Option ℕ) (row : Row) → row_from c d t ≡ some row → (c ≡ some row.C) × (d ≡ some row.D) × (t ≡ some row.T)
unfolding row_from
own_numbers none d t row is_row = absurd (none-ne-some row is_row)
own_numbers (some c) none t row is_row = absurd (none-ne-some row is_row)
own_numbers (some c) (some d) none row is_row = absurd (none-ne-some row is_row)
own_numbers (some c) (some d) (some t) row is_row =
    let same : record { C = c; D = d; T = t } ≡ row = some-injective (record { C = c; D = d; T = t }) row is_row in
    (ap (λ (r : Row). some r.C) same, ap (λ (r : Row). some r.D) same, ap (λ (r : Row). some r.T) same)

pub row_numbers : (fields : List (List ℕ)) (row : Row) → row_in fields ≡ some row → ThreeNumbers fields row
unfolding row_in
row_numbers [] row is_row = absurd (none-ne-some row is_row)
row_numbers (c ∷ []) row is_row = absurd (none-ne-some row is_row)
row_numbers (c ∷ (d ∷ [])) row is_row = absurd (none-ne-some row is_row)
row_numbers (c ∷ (d ∷ (t ∷ []))) row is_row =
    let own = own_numbers (number_in (held c)) (number_in (held d)) (number_in (held t)) row is_row in
    record { first = c; second = d; third = t; three = refl; is_c = own.0; is_d = own.1; is_t = own.2 }
row_numbers (c ∷ (d ∷ (t ∷ (more ∷ fields)))) row is_row = absurd (none-ne-some row is_row)

-- other fields are none
pub no_row :
    (fields : List (List ℕ))
    → ((first second third : List ℕ) → fields ≡ first ∷ second ∷ third ∷ [] → IsSome (number_in (held first)) → IsSome (number_in (held second)) → IsSome (number_in (held third)) → ⊥)
    → row_in fields ≡ none
no_row fields other = go (row_in fields) refl
  where
    go : (found : Option Row) → row_in fields ≡ found → found ≡ none
    go none is_none = refl
    go (some row) is_row =
        let own = row_numbers fields row is_row in
        absurd (other own.first own.second own.third own.three (subst IsSome (sym own.is_c) tt) (subst IsSome (sym own.is_d) tt) (subst IsSome (sym own.is_t) tt))

-- the test of two byte strings tells whether they are the same
same_bytes_lem : (bytes : List ℕ) → same_bytes bytes bytes ≡ true
unfolding same_bytes
same_bytes_lem [] = refl
same_bytes_lem (byte ∷ bytes) = rw (eq-eqb byte byte refl) (same_bytes_lem bytes)

pub bytes_same : (bytes others : List ℕ) → same_bytes bytes others ≡ true → bytes ≡ others
unfolding same_bytes
bytes_same [] [] same = refl
bytes_same [] (other ∷ others) same = absurd (true≢false (sym same))
bytes_same (byte ∷ bytes) [] same = absurd (true≢false (sym same))
bytes_same (byte ∷ bytes) (other ∷ others) same =
    let both = both_pass (eqb byte other) (same_bytes bytes others) same in
    let first = eqb-true byte other both.0 in
    let further = bytes_same bytes others both.1 in
    cc

-- two lists of byte strings, each two of which are related
pub data Pairwise (R : List ℕ → List ℕ → Type 0) : List (List ℕ) → List (List ℕ) → Type 0 where
  no_parts : Pairwise R [] []
  two : {a b : List ℕ} {parts others : List (List ℕ)} → R a b → Pairwise R parts others → Pairwise R (a ∷ parts) (b ∷ others)

-- a field that holds a name
abbrev pub Holds : List ℕ → List ℕ → Type 0
Holds field name = held field ≡ name

-- the test of fields and names tells whether they hold them, one each
pub names_held : {fields some-names : List (List ℕ)} → Pairwise Holds fields some-names → hold fields some-names ≡ true
unfolding hold
names_held no_parts = refl
names_held (two {b = name} holds further) = rw (holds, same_bytes_lem name) (names_held further)

pub held_names : (fields some-names : List (List ℕ)) → hold fields some-names ≡ true → Pairwise Holds fields some-names
unfolding hold
held_names [] [] holds = no_parts
held_names [] (name ∷ some-names) holds = absurd (true≢false (sym holds))
held_names (field ∷ fields) [] holds = absurd (true≢false (sym holds))
held_names (field ∷ fields) (name ∷ some-names) holds =
    let both = both_pass (same_bytes (held field) name) (hold fields some-names) holds in
    two (bytes_same (held field) name both.0) (held_names fields some-names both.1)

-- other fields do not hold them
pub names_not_held : (fields some-names : List (List ℕ)) → (Pairwise Holds fields some-names → ⊥) → hold fields some-names ≡ false
names_not_held fields some-names others = go (hold fields some-names) refl
  where
    go : (test : Bool) → hold fields some-names ≡ test → test ≡ false
    go true holds = absurd (others (held_names fields some-names holds))
    go false holds = refl
