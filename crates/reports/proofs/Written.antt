-- Three parts written into a byte string one behind another, from a place on or from the front; and a row's record.
use mathlib.Core.Path.{◌≡◌, refl, ap, ◌∙◌}
use Prim.Native.Nat.{ℕ, ◌+◌, ◌≤◌}
use mathlib.Core.List.{List, [], ◌∷◌, ◌++◌, append_assoc}
use native.Mathlib.Omega.{arith}
use lib.ListN.{length, length-append}
use Rattle.theory.specs.Row.{Row}
use Rattle.theory.specs.Lists.{filled}
use Rattle.records.specs.Number.{four_bytes}
use Rattle.records.specs.Report.{row_record}
use Rattle.numbers.proofs.Written.{written, written_behind, written_from_front}

-- three parts written one behind another are written as one
pub three_written :
    (before first second third : List ℕ) (at middle end : ℕ) (p q r : List ℕ)
    → at ≤ length before
    → middle ≡ at + length p
    → end ≡ middle + length q
    → first ≡ written before at p
    → second ≡ written first middle q
    → third ≡ written second end r
    → third ≡ written before at (p ++ q ++ r)
three_written before first second third at middle end p q r fits to-middle to_end first_is second_is third-is =
    let two = written_behind before at p q middle fits to-middle in
    let three = written_behind before at (p ++ q) r end fits (omega (arith, length-append p q)) in
    cc (two, three)

-- from the front on they fill it
pub three_fill : (before p q r : List ℕ) → written before 0 (p ++ q ++ r) ≡ filled (p ++ (q ++ r)) before
three_fill before p q r = rw (append_assoc p q r) (written_from_front before (p ++ (q ++ r)))

-- a kind 2 byte and the three numbers behind it are a row's record
pub row_record_written :
    (before kind first second third : List ℕ) (at : ℕ) (row : Row)
    → at + 13 ≤ length before
    → length kind ≡ length before
    → kind ≡ written before at (2 ∷ [])
    → first ≡ written kind (at + 1) (four_bytes row.C)
    → second ≡ written first (at + 5) (four_bytes row.D)
    → third ≡ written second (at + 9) (four_bytes row.T)
    → third ≡ written before at (row_record row)
unfolding four_bytes
row_record_written before kind first second third at row fits long kind_is first_is second_is third-is =
    let numbers = four_bytes row.C ++ four_bytes row.D ++ four_bytes row.T in
    three_written kind first second third (at + 1) (at + 5) (at + 9)
    (four_bytes row.C) (four_bytes row.D) (four_bytes row.T)
    (omega arith) (omega arith) (omega arith) first_is second_is third-is
    ∙ ap (λ (bytes : List ℕ). written bytes (at + 1) numbers) kind_is
    ∙ written_behind before at (2 ∷ []) numbers (at + 1) (omega arith) refl
