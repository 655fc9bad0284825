-- A field of digits, and one of a name, by what was found of its content.
use mathlib.Core.Path.{◌≡◌, refl, sym, ap, subst, ◌∙◌}
use Prim.Native.Nat.{ℕ, ◌+◌, ◌≤◌, ◌<◌}
use native.Mathlib.Omega.{arith}
use mathlib.Core.Bool.{Bool, true, false, true≢false}
use mathlib.Core.List.{List, [], ◌∷◌, ◌++◌}
use mathlib.Core.Option.{IsSome, some-injective}
use lib.ListN.{length, length-append}
use lib.Dec.{eqb}
use borrow.Author.Tests.{eq-eqb, eqb-true}
use Rattle.std.specs.Prelude.{Option, Some, None}
use Rattle.std.proofs.lemmas.List.{append_cancel_left}
use Rattle.theory.specs.Gather.{All}
use Rattle.theory.proofs.Each.{all_append_split}
use Rattle.texts.specs.Rest.{Plain, IsNumber}
use Rattle.texts.specs.Text.{quote, begins_with, number_in}
use Rattle.texts.proofs.Numbers.{digit_passes, number_of_digits, some_number, number_digits, no_number, quote_in_no_number}
use Rattle.texts.proofs.Fields.{digits_plain}
use Rattle.fields.specs.declared.Number.{Number}
use Rattle.fields.specs.Found.{capped, opening, IsDigits, IsFieldEnd, EndsAt, Wrong, FirstNumber, Named, IsName}
use Rattle.fields.proofs.Contents.{wrong_content, not_closed, held_there, right_field}

-- a field of the digits that were found behind what opens it
module _ (text content : List ℕ) (opened : text ≡ opening text ++ content) (digits : Number) (found : IsDigits content digits) where
  abbrev bytes : List ℕ
  bytes = found.0.bytes

  abbrev end : List ℕ
  end = digits.rest.now

  plain : All Plain bytes
  plain = digits_plain bytes (number_of_digits 0 bytes (subst IsSome (sym found.0.is_number) tt))

  whole : text ≡ opening text ++ (bytes ++ end)
  whole = opened ∙ ap (λ behind. opening text ++ behind) found.0.splits

  not_longer : (byte : ℕ) (others more : List ℕ) → end ≡ byte ∷ others → IsNumber (bytes ++ (byte ∷ more)) → ⊥
  not_longer byte others more next = no_number bytes byte more (λ digit. true≢false (sym (digit_passes byte digit) ∙ found.1 byte others next))

  as_many : length content ≡ length bytes + length end
  as_many = ap length found.0.splits ∙ length-append bytes end

  pub no_digits : length end ≡ length content → Wrong IsNumber text
  no_digits none = wrong_content IsNumber quote_in_no_number text bytes end plain whole not_longer (λ number. omega (arith, as_many, (number_digits bytes number).1))

  pub digits_not_closed : IsFieldEnd text end None → Wrong IsNumber text
  digits_not_closed = not_closed IsNumber quote_in_no_number text bytes end plain whole not_longer

  pub digits_held : (rest : List ℕ) → (length end ≡ length content → ⊥) → IsFieldEnd text end (Some rest) → EndsAt IsNumber text rest × FirstNumber text digits.value
  digits_held rest some_digit place =
      let some_bytes : 1 ≤ length bytes = omega (arith, as_many, some_digit) in
      let is_value = some_number bytes some_bytes ∙ found.0.is_number in
      let ends = right_field IsNumber quote_in_no_number text bytes end plain whole not_longer rest place (subst IsSome (sym is_value) tt) some_bytes in (
        ends,
        λ m is_m.
            let ended = ends.only_there (subst IsSome (sym is_m) tt) in
            let same = sym is_value ∙ ap number_in (sym (held_there IsNumber quote_in_no_number text bytes end plain whole not_longer rest place ended)) ∙ is_m in
            found.0.as_held ∙ ap capped (some-injective found.0.value m same),
      )

-- how far a name and a text begin alike: as far as the name goes, or to a byte that is another
record Alike (name text : List ℕ) : Type 0 where
  front : List ℕ
  left : List ℕ
  behind : List ℕ
  name_is : name ≡ front ++ left
  text_is : text ≡ front ++ behind
  ends : (byte : ℕ) (others : List ℕ) → left ≡ byte ∷ others → begins_with byte behind ≡ false

alike : (name text : List ℕ) → Alike name text
alike [] text = record { front = []; left = []; behind = text; name_is = refl; text_is = refl; ends = λ byte others same. cc }
alike (byte ∷ name) [] = record { front = []; left = byte ∷ name; behind = []; name_is = refl; text_is = refl; ends = λ next others same. refl }
alike (byte ∷ name) (first ∷ text) = go (eqb first byte) refl (alike name text)
  where
    go : (same : Bool) → eqb first byte ≡ same → Alike name text → Alike (byte ∷ name) (first ∷ text)
    go true same others =
        record {
          front = byte ∷ others.front;
          left = others.left;
          behind = others.behind;
          name_is = ap (λ behind. byte ∷ behind) others.name_is;
          text_is = ap (λ b. b ∷ text) (eqb-true first byte same) ∙ ap (λ behind. byte ∷ behind) others.text_is;
          ends = others.ends;
        }
    go false other others =
        record {
          front = [];
          left = byte ∷ name;
          behind = first ∷ text;
          name_is = refl;
          text_is = refl;
          ends = λ next more same. let is_next : next ≡ byte = cc in rw (is_next, other) refl;
        }

-- a field where a name is wanted, by its content
module _ (text content : List ℕ) (opened : text ≡ opening text ++ content) (name : List ℕ) (some_byte : 0 < length name) (plain : All Plain name) where
  no_quote : (front behind : List ℕ) → Named name (front ++ (quote ∷ behind)) → ⊥
  no_quote front behind same = omega (arith, (all_append_split Plain front (quote ∷ behind) (subst (All Plain) (sym same) plain)).1.0)

  -- another name: it is alike up to a byte
  pub no_name : ((rest : List ℕ) → content ≡ name ++ rest → ⊥) → Wrong (Named name) text
  no_name other =
      let found = alike name content in
      wrong_content (Named name) no_quote text found.front found.behind (all_append_split Plain found.front found.left (subst (All Plain) found.name_is plain)).0
      (opened ∙ ap (λ behind. opening text ++ behind) found.text_is)
      (λ byte others more next longer.
      let left_is = append_cancel_left found.front found.left (byte ∷ more) (sym found.name_is ∙ sym longer) in
      true≢false (sym (eq-eqb byte byte refl) ∙ ap (begins_with byte) (sym next) ∙ found.ends byte more left_is))
      (λ same. other found.behind (found.text_is ∙ ap (λ front. front ++ found.behind) same))

  -- the name, with what is left behind it
  pub name_held : (end : List ℕ) → content ≡ name ++ end → (found : Option (List ℕ)) → IsFieldEnd text end found → IsName name text found
  name_held end there = held
    where
      whole : text ≡ opening text ++ (name ++ end)
      whole = opened ∙ ap (λ behind. opening text ++ behind) there

      not_longer : (byte : ℕ) (others more : List ℕ) → end ≡ byte ∷ others → Named name (name ++ (byte ∷ more)) → ⊥
      not_longer byte others more next longer = omega (arith, ap length longer, length-append name (byte ∷ more))

      held : (found : Option (List ℕ)) → IsFieldEnd text end found → IsName name text found
      held (Some rest) place = right_field (Named name) no_quote text name end plain whole not_longer rest place refl (omega arith)
      held None place = not_closed (Named name) no_quote text name end plain whole not_longer place
