-- Each entry's promise determines the number, the row and every lent byte; the set entry and the point entry promise the same.
use mathlib.Core.Path.{◌≡◌, ap}
use Prim.Native.Nat.{ℕ}
use mathlib.Core.Logic.{◌↔◌}
use mathlib.Core.List.{List}
use lib.IntN.{pos, nat_abs}
use Rattle.theory.specs.Returned.{Returned, returned}
use Rattle.theory.specs.Row.{Row}
use Rattle.theory.specs.Allowance.{IsAllowance}
use Rattle.theory.specs.Points.{IsPointAllowance}
use Rattle.theory.specs.Lists.{Answered}
use Rattle.theory.proofs.Allowance.{allowance_unique}
use Rattle.theory.proofs.Bound.{point_allowance_unique}
use Rattle.theory.proofs.Lists.{services_agree}
use Rattle.placement.specs.Choice.{allowance_fit}
use Rattle.placement.proofs.Fit.{allowance_fit_is_rule}
use Rattle.records.specs.ListBytes.{numbers_in, BytesAnswered, not_fours, as_numbers}
use Rattle.records.proofs.BytesAnswered.{bytes_answered_unique}
use Rattle.records.proofs.BytesExplained.{bytes_explained_unique}
use Rattle.service.proofs.Table.{table_answered_unique, listing_answered_unique}
use Rattle.service.proofs.Text.{text_answered_unique, text_tabled_unique}
use Rattle.entries.specs.Entry.{TableReturned, ListsReturned, SetReturned, PointReturned, ListingReturned, WhyReturned, TextReturned, TextTableReturned}

-- what is returned has one number and one row
number_and_row : {number other row other_row : ℕ} → returned number row ≡ returned other other_row → (number ≡ other) × (row ≡ other_row)
number_and_row same = (ap (λ (r : Returned). r.number) same, ap (λ (r : Returned). r.row) same)

-- THE TABLE ENTRY'S RESULT IS DETERMINED
pub table_returned_unique : {table report : List ℕ} {number other row other_row : ℕ} {first second : List ℕ}
    → TableReturned table report number row first
    → TableReturned table report other other_row second
    → (number ≡ other) × (row ≡ other_row) × (first ≡ second)
table_returned_unique {table} {report} p q =
    let same = table_answered_unique allowance_fit allowance_fit_is_rule table report p q in
    let numbers = number_and_row same.same_answer in
    (numbers.0, numbers.1, same.same_report)

module _ {cs ds ts responses allowances : List ℕ} {number other row other_row : ℕ} {rs ss ls ms : List ℕ} where
  -- so is that of an entry on lists, for any meaning of an allowance that determines it
  lists_returned_unique : (Allowance : List Row → ℕ → ℕ → Type 0)
      → ((rows : List Row) (i a b : ℕ) → Allowance rows i a → Allowance rows i b → a ≡ b)
      → ListsReturned Allowance cs ds ts responses allowances number row rs ls
      → ListsReturned Allowance cs ds ts responses allowances other other_row ss ms
      → (number ≡ other) × (row ≡ other_row) × (rs ≡ ss) × (ls ≡ ms)
  lists_returned_unique Allowance determined p q =
      let same = bytes_answered_unique Allowance determined cs ds ts responses allowances p q in
      let numbers = number_and_row same.same_answer in
      (numbers.0, numbers.1, same.same_responses, same.same_allowances)

  -- THE SET ENTRY'S RESULT IS DETERMINED
  pub set_returned_unique : SetReturned cs ds ts responses allowances number row rs ls → SetReturned cs ds ts responses allowances other other_row ss ms
      → (number ≡ other) × (row ≡ other_row) × (rs ≡ ss) × (ls ≡ ms)
  set_returned_unique = lists_returned_unique IsAllowance allowance_unique

  -- THE POINT ENTRY'S RESULT IS DETERMINED
  pub point_returned_unique : PointReturned cs ds ts responses allowances number row rs ls → PointReturned cs ds ts responses allowances other other_row ss ms
      → (number ≡ other) × (row ≡ other_row) × (rs ≡ ss) × (ls ≡ ms)
  point_returned_unique = lists_returned_unique (λ rows i a. IsPointAllowance rows i (pos a)) (λ rows i a b p q. ap nat_abs (point_allowance_unique rows i (pos a) (pos b) p q))

-- where one meaning of an allowance has the results of another on numbers, it has them on bytes
module _
    (First Second : List Row → ℕ → ℕ → Type 0)
    (cs ds ts responses allowances : List ℕ)
    (carries : (returns : Returned) (Rs As : List ℕ)
    → Answered First (numbers_in cs) (numbers_in ds) (numbers_in ts) (numbers_in responses) (numbers_in allowances) returns Rs As
    → Answered Second (numbers_in cs) (numbers_in ds) (numbers_in ts) (numbers_in responses) (numbers_in allowances) returns Rs As) where
  bytes_carry : {returns : Returned} {rs ls : List ℕ} → BytesAnswered First cs ds ts responses allowances returns rs ls → BytesAnswered Second cs ds ts responses allowances returns rs ls
  bytes_carry (not_fours n) = not_fours n
  bytes_carry (as_numbers returns Rs As fours p) = as_numbers returns Rs As fours (carries returns Rs As p)

-- DEMAND 3 ON THE ENTRIES: what one of the two on lists promises the other does
pub entries_agree : (cs ds ts responses allowances : List ℕ) {number row : ℕ} {rs ls : List ℕ}
    → SetReturned cs ds ts responses allowances number row rs ls ↔ PointReturned cs ds ts responses allowances number row rs ls
entries_agree cs ds ts responses allowances = (
  bytes_carry IsAllowance (λ rows i a. IsPointAllowance rows i (pos a)) cs ds ts responses allowances (λ returns Rs As p. (services_agree (numbers_in cs) (numbers_in ds) (numbers_in ts) (numbers_in responses) (numbers_in allowances)).0 p),
  bytes_carry (λ rows i a. IsPointAllowance rows i (pos a)) IsAllowance cs ds ts responses allowances (λ returns Rs As p. (services_agree (numbers_in cs) (numbers_in ds) (numbers_in ts) (numbers_in responses) (numbers_in allowances)).1 p),
)

-- THE LISTING ENTRY'S RESULT IS DETERMINED
pub listing_returned_unique : {table listing : List ℕ} {written other : ℕ} {first second : List ℕ}
    → ListingReturned table listing written first
    → ListingReturned table listing other second
    → (written ≡ other) × (first ≡ second)
listing_returned_unique {table} p q = listing_answered_unique allowance_fit allowance_fit_is_rule table p q

-- THE EXPLANATION ENTRY'S RESULT IS DETERMINED
pub why_returned_unique : {cs ds ts : List ℕ} {asked number other row other_row limiting other-limiting point other-point : ℕ}
    → WhyReturned cs ds ts asked number row limiting point
    → WhyReturned cs ds ts asked other other_row other-limiting other-point
    → (number ≡ other) × (row ≡ other_row) × (limiting ≡ other-limiting) × (point ≡ other-point)
why_returned_unique {cs} {ds} {ts} {asked} p q =
    let same = bytes_explained_unique cs ds ts asked p q in
    let numbers = number_and_row same.same_answer in
    (numbers.0, numbers.1, same.same_row, same.same_point)

-- THE RESULTS OF THE ENTRIES ON A TEXT ARE DETERMINED
module _ {cores : ℕ} {text lent : List ℕ} {number other row other_row written other-written : ℕ} {first second : List ℕ} where
  pub text_returned_unique : TextReturned cores text lent number row written first → TextReturned cores text lent other other_row other-written second
      → (number ≡ other) × (row ≡ other_row) × (written ≡ other-written) × (first ≡ second)
  text_returned_unique p q =
      let same = text_answered_unique cores text lent allowance_fit_is_rule p q in
      let numbers = number_and_row same.same_answer in
      (numbers.0, numbers.1, same.same_length, same.same_bytes)

  pub text_table_returned_unique : TextTableReturned cores text lent number row written first → TextTableReturned cores text lent other other_row other-written second
      → (number ≡ other) × (row ≡ other_row) × (written ≡ other-written) × (first ≡ second)
  text_table_returned_unique p q =
      let same = text_tabled_unique cores text lent p q in
      let numbers = number_and_row same.same_answer in
      (numbers.0, numbers.1, same.same_length, same.same_bytes)
