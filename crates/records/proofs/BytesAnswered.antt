-- On bytes too, a list service's promise determines what is returned and both byte strings, for any meaning of an allowance that determines it; and a refused call
-- changes no byte.
use mathlib.Core.Path.{◌≡◌, refl, ap}
use Prim.Native.Nat.{ℕ}
use mathlib.Core.List.{List}
use Rattle.theory.specs.Returned.{Returned}
use Rattle.theory.specs.Row.{Row}
use Rattle.theory.specs.Lists.{filled, Answered, rows_out_of_range, row_breaks_limits, output_too_short, row_misses, accepted}
use Rattle.theory.proofs.Lists.{Same, answered_unique}
use Rattle.records.specs.ListBytes.{numbers_in, bytes_of, BytesAnswered, not_fours, as_numbers}
use Rattle.records.proofs.Number.{AllBelow}
use Rattle.records.proofs.ListBytes.{kept}

module _
    (Allowance : List Row → ℕ → ℕ → Type 0)
    (allowance-determined : (rows : List Row) (i a b : ℕ) → Allowance rows i a → Allowance rows i b → a ≡ b)
    (cs ds ts responses allowances : List ℕ) where
  -- the same numbers are the same bytes
  same_bytes : {a b : Returned} {Rs Ss Ls Ms : List ℕ} → Same a b Rs Ss Ls Ms
      → Same a b (filled (bytes_of Rs) responses) (filled (bytes_of Ss) responses) (filled (bytes_of Ls) allowances) (filled (bytes_of Ms) allowances)
  same_bytes s = record {
    same_answer = s.same_answer;
    same_responses = ap (λ (numbers : List ℕ). filled (bytes_of numbers) responses) s.same_responses;
    same_allowances = ap (λ (numbers : List ℕ). filled (bytes_of numbers) allowances) s.same_allowances;
  }

  pub bytes_answered_unique : {a b : Returned} {rs ss ls ms : List ℕ}
      → BytesAnswered Allowance cs ds ts responses allowances a rs ls
      → BytesAnswered Allowance cs ds ts responses allowances b ss ms
      → Same a b rs ss ls ms
  bytes_answered_unique (not_fours n) (not_fours m) = record { same_answer = refl; same_responses = refl; same_allowances = refl }
  bytes_answered_unique (not_fours n) (as_numbers b Ss Ms g q) = absurd (n g)
  bytes_answered_unique (as_numbers a Rs Ls f p) (not_fours m) = absurd (m f)
  bytes_answered_unique (as_numbers a Rs Ls f p) (as_numbers b Ss Ms g q) =
      same_bytes (answered_unique Allowance allowance-determined (numbers_in cs) (numbers_in ds) (numbers_in ts) (numbers_in responses) (numbers_in allowances) p q)

-- A REFUSED CALL CHANGES NO BYTE
module _ {Allowance : List Row → ℕ → ℕ → Type 0} {cs ds ts responses allowances : List ℕ} (responses-below : AllBelow 256 responses) (allowances-below : AllBelow 256 allowances) where
  pub refused_keeps_bytes : {returns : Returned} {responses-after allowances-after : List ℕ}
      → BytesAnswered Allowance cs ds ts responses allowances returns responses-after allowances-after
      → (returns.number ≡ 0 → ⊥)
      → (responses-after ≡ responses) × (allowances-after ≡ allowances)
  refused_keeps_bytes (not_fours n) refused = (refl, refl)
  refused_keeps_bytes (as_numbers returns Rs As fours answered) refused = go answered refused
    where
      go : {returns : Returned} {Rs As : List ℕ}
          → Answered Allowance (numbers_in cs) (numbers_in ds) (numbers_in ts) (numbers_in responses) (numbers_in allowances) returns Rs As
          → (returns.number ≡ 0 → ⊥)
          → (filled (bytes_of Rs) responses ≡ responses) × (filled (bytes_of As) allowances ≡ allowances)
      go (rows_out_of_range n) refused = (kept responses responses-below, kept allowances allowances-below)
      go (row_breaks_limits k s f) refused = (kept responses responses-below, kept allowances allowances-below)
      go (output_too_short s w o) refused = (kept responses responses-below, kept allowances allowances-below)
      go (row_misses k s w r a m) refused = (kept responses responses-below, kept allowances allowances-below)
      go (accepted Rs As s w r a all is-R is-A) refused = absurd (refused refl)
