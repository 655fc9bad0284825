-- The arrays of 24 numbers of which a list service is lent as many as an answer list has room for, and what it leaves in them.
use mathlib.Core.Path.{◌≡◌, sym, ap, ◌∙◌}
use Prim.Native.Nat.{ℕ, ◌*◌, ◌/◌, min, ◌≤◌}
use mathlib.Core.List.{List, ◌++◌}
use native.Mathlib.Omega.{arith}
use lib.ListN.{length, take, drop, replicate}
use lib.Seq.{length_front, length-take-le}
use Rattle.theory.specs.Returned.{Returned}
use Rattle.theory.specs.Row.{Row}
use Rattle.theory.specs.Lists.{Answered}
use Rattle.records.specs.ListBytes.{numbers_in}
use Rattle.records.proofs.ListBytes.{numbers_length}
use Rattle.entries.proofs.Cut.{CutAnswered, accepted_alike}

abbrev pub array : List ℕ
array = replicate 24 0

-- of an accepted call: both arrays are back whole, and in them and in the bytes of both answer lists there is a place for each row
pub record PlaceForEach (cs responses allowances Rs As : List ℕ) (r a : ℕ) : Type 0 where
  pub no_25th : length cs ≤ 24
  pub responses_whole : length (Rs ++ drop r array) ≡ 24
  pub allowances_whole : length (As ++ drop a array) ≡ 24
  pub in_response_bytes : 4 * length cs ≤ length responses
  pub in_allowance_bytes : 4 * length cs ≤ length allowances

lent_length : (bytes : List ℕ) (lent : ℕ) → lent ≡ min 24 (length bytes / 4) → length (take lent array) ≡ min 24 (length (numbers_in bytes))
lent_length bytes lent is-room = length-take-le lent array (omega arith) ∙ is-room ∙ ap (min 24) (sym (numbers_length bytes))

module _
    {Allowance : List Row → ℕ → ℕ → Type 0}
    {cs ds ts : List ℕ}
    (responses allowances : List ℕ)
    {r a : ℕ}
    (room-r : r ≡ min 24 (length responses / 4))
    (room-a : a ≡ min 24 (length allowances / 4))
    {returns : Returned}
    {Rs As : List ℕ}
    (responses-kept : length Rs ≡ length (take r array))
    (allowances-kept : length As ≡ length (take a array))
    (answered : Answered Allowance cs ds ts (take r array) (take a array) returns Rs As) where
  -- what is lent is the answer lists cut to 24 numbers
  pub lent_is_cut : CutAnswered Allowance cs ds ts (numbers_in responses) (numbers_in allowances) returns Rs As
  lent_is_cut =
      record {
        cut_responses = take r array;
        cut_allowances = take a array;
        responses_cut = lent_length responses r room-r;
        allowances_cut = lent_length allowances a room-a;
        responses_kept = responses-kept;
        allowances_kept = allowances-kept;
        answered = answered;
      }

  pub place_for_each : returns.number ≡ 0 → PlaceForEach cs responses allowances Rs As r a
  place_for_each none =
      let alike = accepted_alike lent_is_cut none in
      record {
        no_25th = alike.no_25th;
        responses_whole = length_front array Rs r responses-kept;
        allowances_whole = length_front array As a allowances-kept;
        in_response_bytes = omega (arith, alike, numbers_length responses);
        in_allowance_bytes = omega (arith, alike, numbers_length allowances);
      }
