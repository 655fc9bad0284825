-- A FIELD OF A TEXT CHANGED FOR ONE THAT IS ALIKE CHANGES NOTHING. So quoting changes nothing, and leading zeros change nothing.
use mathlib.Core.Path.{◌≡◌, refl, sym, ap, ◌∙◌}
use Prim.Native.Nat.{ℕ, ◌≤◌}
use native.Mathlib.Omega.{arith}
use mathlib.Core.Bool.{false}
use mathlib.Core.List.{List, [], ◌∷◌, ◌++◌, append-nil}
use lib.ListN.{length, replicate}
use Rattle.theory.specs.Gather.{All}
use Rattle.listing.proofs.Decimal.{decimal_from, IsDigit}
use Rattle.texts.specs.Text.{LF, quote, comma, begins_with, lines_of, fields_of, number_in, text_of}
use Rattle.texts.specs.Rest.{rest_of_line, lines_behind, rest_of_field, fields_behind}
use Rattle.texts.specs.Forms.{digit_zero, FieldOf, plain, quoted, LineEnd, LF_alone, CR_LF}
use Rattle.texts.proofs.Lines.{Ordinary, plain_ordinary, some_line, comma_ends_field, ordinary_in_field}
use Rattle.texts.proofs.Digits.{zeros_digits, zeros_longer, zeros_read}
use Rattle.texts.proofs.Fields.{field_holds, field_ordinary, field_longer, digits_plain}
use Rattle.texts.proofs.Numbers.{digits_number}
use Rattle.texts.proofs.Held.{plain_begins}
use Rattle.texts.proofs.ThreeFields.{Pairwise}
use Rattle.texts.proofs.Alike.{Alike, same_content, same_number, AlikeLines, alike_itself, line_alike_itself, each_alike, alike_headed}
use Rattle.texts.proofs.Starts.{Start, all_alike, empty_in_front, comma_in_front, same_behind}

-- a field begins behind a text: it is empty, or ends in a comma or in a line end
pub data FieldBegins : List ℕ → Type 0 where
  at_the_start : FieldBegins []
  behind_comma : (front : List ℕ) → FieldBegins (front ++ (comma ∷ []))
  behind_line_end : (front : List ℕ) → FieldBegins (front ++ (LF ∷ []))

-- a field ends in front of a text: it is empty, or begins with a comma or with a line end
pub data FieldEnds : List ℕ → Type 0 where
  at_the_end : FieldEnds []
  before_comma : (behind : List ℕ) → FieldEnds (comma ∷ behind)
  before_line_end : (behind : List ℕ) {end : List ℕ} → LineEnd end → FieldEnds (end ++ behind)

-- what stands where a field ends begins with no more of it
field_ended : {behind : List ℕ} → FieldEnds behind → rest_of_field behind ≡ []
unfolding lines_of fields_of
field_ended at_the_end = refl
field_ended (before_comma behind) = comma_ends_field behind
field_ended (before_line_end behind LF_alone) = refl
field_ended (before_line_end behind CR_LF) = refl

-- a text that is not empty has a first line
first_line : (field behind : List ℕ) → 1 ≤ length field → lines_of (field ++ behind) ≡ rest_of_line (field ++ behind) ∷ lines_behind (field ++ behind)
first_line [] behind not_empty = absurd (omega arith)
first_line (byte ∷ field) behind not_empty = some_line byte (field ++ behind)

-- two fields that are alike, in front of one text
pub record OneForOther (field other : List ℕ) : Type 0 where
  pub own : All Ordinary field
  pub own_other : All Ordinary other
  pub not_empty : 1 ≤ length field
  pub other_not_empty : 1 ≤ length other
  pub alike : Alike field other

module _ {field other behind : List ℕ} (change : OneForOther field other) (ends : FieldEnds behind) where
  field_start : Start Alike (lines_of (field ++ behind)) (lines_of (other ++ behind))
  field_start =
      let first = ordinary_in_field field behind change.own in
      let second = ordinary_in_field other behind change.own_other in
      record {
        first_field = rw (first.in_field, second.in_field, field_ended ends, append-nil field, append-nil other) change.alike;
        further_fields = rw (first.same_fields, second.same_fields) (each_alike Alike alike_itself (fields_behind behind));
        further_lines = rw (first.same_lines, second.same_lines) (each_alike AlikeLines line_alike_itself (lines_behind behind));
      }

  fields_alike : Pairwise AlikeLines (lines_of (field ++ behind)) (lines_of (other ++ behind))
  fields_alike = all_alike _ _ (first_line field behind change.not_empty) (first_line other behind change.other_not_empty) field_start

  -- A FIELD CHANGED FOR ONE THAT IS ALIKE
  pub field_changes_nothing : {front : List ℕ} → FieldBegins front → text_of (front ++ (field ++ behind)) ≡ text_of (front ++ (other ++ behind))
  unfolding text_of lines_of
  field_changes_nothing at_the_start = alike_headed fields_alike
  field_changes_nothing (behind_comma front) = same_behind comma (field ++ behind) (other ++ behind) (comma_in_front field_start) front
  field_changes_nothing (behind_line_end front) = same_behind LF (field ++ behind) (other ++ behind) (empty_in_front fields_alike) front

-- a field of bytes of its own, the first of them no quote, and the same field in quotes
pub quoting_changes_nothing :
    {front behind : List ℕ} (field : List ℕ) → FieldBegins front → FieldEnds behind → All Ordinary field → 1 ≤ length field → begins_with quote field ≡ false
    → text_of (front ++ (field ++ behind)) ≡ text_of (front ++ ((quote ∷ (field ++ (quote ∷ []))) ++ behind))
quoting_changes_nothing field begins ends own not_empty no_quote =
    let in-quotes : FieldOf field (quote ∷ (field ++ (quote ∷ []))) = quoted in
    field_changes_nothing
    (record {
      own = own;
      own_other = field_ordinary own in-quotes;
      not_empty = not_empty;
      other_not_empty = omega (arith, field_longer in-quotes);
      alike = same_content (field_holds no_quote plain ∙ sym (field_holds no_quote in-quotes));
    })
    ends begins

-- a field of digits, plain or quoted, and the same digits behind zeros, plain or quoted
pub zeros_change_nothing :
    {front behind field other : List ℕ} (zeros : ℕ) (digits : List ℕ) → FieldBegins front → FieldEnds behind → All IsDigit digits → 1 ≤ length digits
    → FieldOf digits field
    → FieldOf (replicate zeros digit_zero ++ digits) other
    → text_of (front ++ (field ++ behind)) ≡ text_of (front ++ (other ++ behind))
zeros_change_nothing zeros digits begins ends are_digits not_empty form other-form =
    let longer = replicate zeros digit_zero ++ digits in
    let plain-digits = digits_plain digits are_digits in
    let plain-longer = digits_plain longer (zeros_digits zeros digits are_digits) in
    let length-longer = zeros_longer zeros digits in
    field_changes_nothing
    (record {
      own = field_ordinary (plain_ordinary digits plain-digits) form;
      own_other = field_ordinary (plain_ordinary longer plain-longer) other-form;
      not_empty = omega (arith, field_longer form);
      other_not_empty = omega (arith, field_longer other-form);
      alike =
          same_number (decimal_from 0 digits)
          (ap number_in (field_holds (plain_begins digits plain-digits) form) ∙ digits_number digits are_digits not_empty)
          (ap number_in (field_holds (plain_begins longer plain-longer) other-form) ∙ zeros_read zeros digits are_digits not_empty);
    })
    ends begins
