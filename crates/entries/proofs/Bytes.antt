-- A list service on bytes, from what it returns on the numbers that they are.
use mathlib.Core.Path.{◌≡◌, sym, ap, ◌∙◌}
use Prim.Native.Nat.{ℕ, ◌≤◌}
use mathlib.Core.Logic.{⊎_elim}
use mathlib.Core.List.{List, [], ◌∷◌, ◌++◌, flat_map}
use native.Mathlib.Omega.{arith}
use lib.ListN.{length, take, length-take}
use lib.Seq.{take-append-le}
use Rattle.std.proofs.Common.{Ok, Err}
use Rattle.answers.specs.declared.Refusal.{Refusal}
use Rattle.answers.specs.Answer.{refused_with}
use Rattle.theory.specs.Returned.{Returned, returned}
use Rattle.theory.specs.Row.{Row}
use Rattle.theory.specs.Lists.{filled, Answered, rows_out_of_range}
use Rattle.records.specs.Number.{four_bytes}
use Rattle.records.specs.ListBytes.{numbers_in, bytes_of, Fours, BytesAnswered, not_fours, as_numbers}
use Rattle.records.proofs.Number.{AllBelow, all_below_drop}
use Rattle.records.proofs.ListBytes.{number_first, kept}
use Rattle.entries.specs.declared.lists.Lists.{Lists}
use Rattle.entries.specs.Lists.{AreLists, no_rows, as_lists, AnsweredInBytes, RowBytes}
use Rattle.entries.proofs.RowBytes.{no_rows_because}
use Rattle.entries.proofs.Cut.{CutAnswered, refused_alike, accepted_alike}

-- bytes filled with those of a list of numbers whose front was filled: only the front matters
front_filled : (numbers bytes : List ℕ) → length numbers ≤ length (numbers_in bytes) → AllBelow 256 bytes
    → filled (bytes_of (filled numbers (numbers_in bytes))) bytes ≡ filled (bytes_of numbers) bytes
unfolding numbers_in bytes_of flat_map
front_filled [] bytes inside below = kept bytes below
front_filled (n ∷ numbers) [] inside below = absurd (omega arith)
front_filled (n ∷ numbers) (a ∷ []) inside below = absurd (omega arith)
front_filled (n ∷ numbers) (a ∷ (b ∷ [])) inside below = absurd (omega arith)
front_filled (n ∷ numbers) (a ∷ (b ∷ (c ∷ []))) inside below = absurd (omega arith)
front_filled (n ∷ numbers) (a ∷ (b ∷ (c ∷ (d ∷ bytes)))) inside below =
    number_first n a b c d (bytes_of (filled numbers (numbers_in bytes))) bytes
    ∙ ap (λ (behind : List ℕ). four_bytes n ++ behind) (front_filled numbers bytes (omega arith) (all_below_drop 256 4 (a ∷ b ∷ c ∷ d ∷ bytes) below))
    ∙ sym (number_first n a b c d (bytes_of numbers) bytes)

-- with answer lists as bytes, a service answers on rows as numbers as it does on the bytes that these are
module _ {Allowance : List Row → ℕ → ℕ → Type 0} {cs ds ts responses allowances : List ℕ} {returns : Returned} {responses-after allowances-after : List ℕ} where
  pub in_bytes_answered : Fours cs × Fours ds × Fours ts
      → AnsweredInBytes Allowance (numbers_in cs) (numbers_in ds) (numbers_in ts) responses allowances returns responses-after allowances-after
      → BytesAnswered Allowance cs ds ts responses allowances returns responses-after allowances-after
  in_bytes_answered fours bytes = rw (bytes.responses_are, bytes.allowances_are) (as_numbers returns bytes.Rs bytes.As fours bytes.answered)

  pub read_answered : {lists : Lists} → AreLists cs ds ts (Ok lists)
      → AnsweredInBytes Allowance (take lists.n lists.c) (take lists.n lists.d) (take lists.n lists.t) responses allowances returns responses-after allowances-after
      → BytesAnswered Allowance cs ds ts responses allowances returns responses-after allowances-after
  read_answered (as_lists lists some fours is_c is_d is_t) bytes = in_bytes_answered fours (rw (is_c, is_d, is_t) at bytes)

module _
    {Allowance : List Row → ℕ → ℕ → Type 0}
    (responses allowances : List ℕ)
    (responses-below : AllBelow 256 responses)
    (allowances-below : AllBelow 256 allowances) where
  -- a refusal on the numbers keeps the bytes
  refused_in_bytes : {cs ds ts : List ℕ} {returns : Returned} → Answered Allowance cs ds ts (numbers_in responses) (numbers_in allowances) returns (numbers_in responses) (numbers_in allowances)
      → AnsweredInBytes Allowance cs ds ts responses allowances returns responses allowances
  refused_in_bytes refused = record {
    Rs = numbers_in responses;
    As = numbers_in allowances;
    answered = refused;
    responses_are = sym (kept responses responses-below);
    allowances_are = sym (kept allowances allowances-below);
  }

  -- byte strings that are no rows
  pub no_rows_answered : (cs ds ts : List ℕ) → (RowBytes cs ds ts → ⊥) → BytesAnswered Allowance cs ds ts responses allowances (returned 3 0) responses allowances
  no_rows_answered cs ds ts none =
      ⊎_elim not_fours (λ whole. in_bytes_answered whole.0 (refused_in_bytes (rows_out_of_range whole.1))) (no_rows_because cs ds ts none)

  pub unread_answered : {cs ds ts : List ℕ} {refusal : Refusal} → AreLists cs ds ts (Err refusal) → BytesAnswered Allowance cs ds ts responses allowances (refused_with refusal) responses allowances
  unread_answered {cs} {ds} {ts} (no_rows none) = no_rows_answered cs ds ts none

  -- the service's result on answer lists that are cut to 24 numbers
  module _ {cs ds ts : List ℕ} {returns : Returned} {Rs As : List ℕ} (cut : CutAnswered Allowance cs ds ts (numbers_in responses) (numbers_in allowances) returns Rs As) where
    pub cut_refused : (returns.number ≡ 0 → ⊥) → AnsweredInBytes Allowance cs ds ts responses allowances returns responses allowances
    cut_refused refused = refused_in_bytes (refused_alike cut refused)

    -- numbers at the front of an array that was lent in part, and as many at the front of the bytes
    front : (bytes : List ℕ) → AllBelow 256 bytes → (numbers rest : List ℕ) → length cs ≤ length numbers → length cs ≤ length (numbers_in bytes)
        → filled (bytes_of (take (length cs) (numbers ++ rest))) bytes ≡ filled (bytes_of (filled (take (length cs) numbers) (numbers_in bytes))) bytes
    front bytes below numbers rest inside room =
        ap (λ (l : List ℕ). filled (bytes_of l) bytes) (take-append-le (length cs) numbers rest inside)
        ∙ sym (front_filled (take (length cs) numbers) bytes (omega (arith, length-take (length cs) numbers)) below)

    pub cut_accepted : {responses-after allowances-after : List ℕ} (rest others : List ℕ) → returns.number ≡ 0
        → responses-after ≡ filled (bytes_of (take (length cs) (Rs ++ rest))) responses
        → allowances-after ≡ filled (bytes_of (take (length cs) (As ++ others))) allowances
        → AnsweredInBytes Allowance cs ds ts responses allowances (returned 0 0) responses-after allowances-after
    cut_accepted rest others none responses_are allowances_are =
        let alike = accepted_alike cut none in
        record {
          Rs = filled (take (length cs) Rs) (numbers_in responses);
          As = filled (take (length cs) As) (numbers_in allowances);
          answered = alike.answered;
          responses_are = responses_are ∙ front responses responses-below Rs rest (omega arith) alike.responses_inside;
          allowances_are = allowances_are ∙ front allowances allowances-below As others (omega arith) alike.allowances_inside;
        }
