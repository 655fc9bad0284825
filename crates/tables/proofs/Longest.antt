-- NO LISTING IS LONGER THAN 1102 BYTES, and none is empty: with so many bytes lent the lines of every table are written.
use mathlib.Core.Path.{refl, sym, subst}
use Prim.Native.Nat.{ℕ, ◌≤◌}
use mathlib.Core.List.{List}
use native.Mathlib.Omega.{arith}
use lib.ListN.{length, take, drop, length-append}
use lib.Seq.{take_at}
use Rattle.std.specs.Prelude.{Option, None, Some, IsSome}
use Rattle.std.specs.Option.{unwrap_or}
use Rattle.placement.specs.Choice.{Rule}
use Rattle.placement.proofs.Moment.{underway}
use Rattle.records.proofs.Reading.{read_table_within}
use Rattle.records.proofs.Refused.{refused_from_1_to_5}
use Rattle.listing.specs.Listing.{ascii, listing, refusal}
use Rattle.listing.proofs.Header.{header_line_length}
use Rattle.listing.proofs.Longest.{listing_length, refusal_length}
use Rattle.certifying.proofs.Small.{certified_digits}
use Rattle.service.specs.Table.{Listed, ListingAnswered}

module _ {rule : Rule} {bytes : List ℕ} where
  pub listed_length : {lines : List ℕ} → Listed rule bytes lines → length lines ≤ 1102
  listed_length (Listed.not_a_table number row refused) =
      let small = refused_from_1_to_5 bytes number row refused in refusal_length number row (omega (arith, small.1)) (omega (arith, small.2))
  listed_length (Listed.no_core_takes_it t i reads stopped) =
      let within = read_table_within bytes t reads in
      refusal_length 6 _ (omega arith) (omega (arith, (underway rule t stopped.moment).left_in_table.0, within.no_25th_row))
  listed_length (Listed.accepted t all reads c) =
      let within = read_table_within bytes t reads in
      listing_length all (omega (arith, c.are_figures.one_each, within.some_row)) (omega (arith, c.are_figures.one_each, within.no_25th_row)) (certified_digits rule t all within c)

  pub listed_some : {lines : List ℕ} → Listed rule bytes lines → 1 ≤ length lines
  unfolding listing refusal ascii
  listed_some (Listed.not_a_table number row refused) = omega arith
  listed_some (Listed.no_core_takes_it t i reads stopped) = omega arith
  listed_some (Listed.accepted t all reads c) = simp length-append (omega (arith, header_line_length))

  -- so 1102 bytes are enough for every table
  pub always_written : {listing after : List ℕ} {n : ℕ} → 1102 ≤ length listing → ListingAnswered rule bytes listing n after → Listed rule bytes (take n after)
  always_written {listing} long (ListingAnswered.written lines listed fits) = subst (Listed rule bytes) (sym (take_at lines (drop (length lines) listing) (length lines) refl)) listed
  always_written long (ListingAnswered.too_short lines listed short) = absurd (omega (arith, listed_length listed))

  -- and some of them are written
  pub some_written : {listing after : List ℕ} {n : ℕ} → 1102 ≤ length listing → ListingAnswered rule bytes listing n after → (1 ≤ n) × (n ≤ length listing)
  some_written long (ListingAnswered.written lines listed fits) = (listed_some listed, fits)
  some_written long (ListingAnswered.too_short lines listed short) = absurd (omega (arith, listed_length listed))

  pub always_some : {listing after : List ℕ} (answer : Option ℕ) → 1102 ≤ length listing → ListingAnswered rule bytes listing (unwrap_or answer 0) after → IsSome answer
  always_some None long answered = absurd (omega (arith, some_written long answered))
  always_some (Some n) long answered = refl
