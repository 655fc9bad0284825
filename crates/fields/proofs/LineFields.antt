-- A line by its three fields: a row, the header, or neither.
use mathlib.Core.Path.{◌≡◌, refl, ap, ◌∙◌}
use Prim.Native.Nat.{ℕ}
use mathlib.Core.Bool.{false}
use mathlib.Core.List.{List}
use mathlib.Core.Option.{Option, none, some, IsSome}
use Rattle.theory.specs.Row.{Row}
use Rattle.listing.specs.Listing.{ascii}
use Rattle.texts.specs.Text.{number_in, row_in, names, hold}
use Rattle.texts.specs.Rest.{IsNumber}
use Rattle.texts.proofs.ThreeFields.{three_numbers_row, no_row, Pairwise, no_parts, two, Holds, names_held, names_not_held}
use Rattle.std.specs.Prelude.{Option as Found, Some, None}
use Rattle.fields.specs.declared.Line.{Line}
use Rattle.fields.specs.Found.{held_first, first_fields, comma_behind, line_end_behind, FirstNumber, Named, Followed, FirstRow, IsNameThen, IsHeader}
use Rattle.fields.proofs.Left.{further}
use Rattle.fields.proofs.Followed.{NotThree, not_third, all_three, lines_left}

-- the number that is there
number_there : (found : Option ℕ) → IsSome found → (n : ℕ) × (found ≡ some n)
number_there none some_number = absurd some_number
number_there (some n) some_number = (n, refl)

-- a row by its parts
pub same_row : {c d t e f u : ℕ} → c ≡ e → d ≡ f → t ≡ u → ◌≡◌ {A = Row} (record { C = c; D = d; T = t }) (record { C = e; D = f; T = u })
same_row same_c same_d same_t = cc

module _ (text : List ℕ) where
  -- a line with a field that is not so is no row
  pub not_a_row : NotThree IsNumber IsNumber IsNumber text → row_in (first_fields text) ≡ none
  not_a_row = no_row (first_fields text)

  -- three numbers with commas between and a line's end behind are one
  pub row_found :
      {second third : List ℕ} (line : Line) (is_c : Followed IsNumber comma_behind text second × FirstNumber text line.row.c) (is_d : Followed IsNumber comma_behind second third × FirstNumber second line.row.d)
      → Followed IsNumber line_end_behind third line.rest.now × FirstNumber third line.row.t
      → FirstRow text line
  row_found {second} {third} line is_c is_d is_t =
      let c = number_there (number_in (held_first text)) is_c.0.right in
      let d = number_there (number_in (held_first second)) is_d.0.right in
      let t = number_there (number_in (held_first third)) is_t.0.right in
      record {
        row = record { C = c.0; D = d.0; T = t.0 };
        is_row = three_numbers_row (all_three IsNumber IsNumber IsNumber is_c.0 is_d.0 is_t.0) c.1 d.1 t.1;
        as_held = same_row (is_c.1 c.0 c.1) (is_d.1 d.0 d.1) (is_t.1 t.0 t.1);
        lines_follow = lines_left IsNumber IsNumber IsNumber is_c.0 is_d.0 is_t.0;
        left_behind = further is_c.0.left_behind (further is_d.0.left_behind is_t.0.left_behind);
      }

  -- a line with a field that is not so is no header
  pub not_the_header : NotThree (Named (ascii "wcet")) (Named (ascii "deadline")) (Named (ascii "period")) text → hold (first_fields text) names ≡ false
  unfolding names
  not_the_header others = names_not_held (first_fields text) names (go refl)
    where
      go : {fields : List (List ℕ)} → first_fields text ≡ fields → Pairwise Holds fields names → ⊥
      go are (two {a = first} w (two {a = second} d (two {a = third} p no_parts))) = others first second third are w d p

  -- the names of the header, as they have to stand
  pub header_found :
      {second third : List ℕ} → Followed (Named (ascii "wcet")) comma_behind text second → Followed (Named (ascii "deadline")) comma_behind second third
      → (found : Found (List ℕ)) → IsNameThen line_end_behind (ascii "period") third found
      → IsHeader text found
  unfolding names
  header_found w d (Some rest) p =
      (ap (λ fields. hold fields names) (all_three _ _ _ w d p) ∙ names_held (two w.right (two d.right (two p.right no_parts))), lines_left _ _ _ w d p, further w.left_behind (further d.left_behind p.left_behind))
  header_found w d None wrong = not_the_header (not_third (Named (ascii "wcet")) (Named (ascii "deadline")) (Named (ascii "period")) w d wrong)
