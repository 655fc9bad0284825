-- Two texts that begin with fields which are the same or alike, and are alike behind them; and what stands in front of both.
use mathlib.Core.Path.{◌≡◌, refl, sym, ap, subst}
use Prim.Native.Nat.{ℕ}
use mathlib.Core.Bool.{Bool, true, false, ◌&&◌}
use mathlib.Core.List.{List, [], ◌∷◌, ◌++◌}
use lib.Dec.{eqb}
use lib.Seq.{append_snoc}
use borrow.Author.Tests.{eqb-true, eqb-false}
use Rattle.texts.specs.Text.{LF, CR, comma, begins_with, in_front, lines_of, fields_of, text_of}
use Rattle.texts.specs.Rest.{first_part, other_parts}
use Rattle.texts.proofs.Lines.{first_in_front, others_in_front, some_line, some_field, stays_in_field}
use Rattle.texts.proofs.ThreeFields.{Pairwise, no_parts, two}
use Rattle.texts.proofs.Alike.{Alike, AlikeLines, alike_itself, alike_headed}

-- two texts, by their lines: the first field of one is related to that of the other, and all behind these is alike
pub record Start (R : List ℕ → List ℕ → Type 0) (lines others : List (List ℕ)) : Type 0 where
  pub first_field : R (first_part (fields_of (first_part lines))) (first_part (fields_of (first_part others)))
  pub further_fields : Pairwise Alike (other_parts (fields_of (first_part lines))) (other_parts (fields_of (first_part others)))
  pub further_lines : Pairwise AlikeLines (other_parts lines) (other_parts others)

-- the first lines of such texts are alike
first_alike : (lines others : List (List ℕ)) → Start Alike lines others → AlikeLines (first_part lines) (first_part others)
first_alike lines others start = rw (some_field (first_part lines), some_field (first_part others)) (two start.first_field start.further_fields)

-- and where there are any, so are all
pub all_alike : (lines others : List (List ℕ)) → lines ≡ first_part lines ∷ other_parts lines → others ≡ first_part others ∷ other_parts others → Start Alike lines others → Pairwise AlikeLines lines others
all_alike lines others some_is_first other-first start =
    subst (λ (xs : List (List ℕ)). Pairwise AlikeLines xs others) (sym some_is_first)
    (subst (λ (ys : List (List ℕ)). Pairwise AlikeLines (first_part lines ∷ other_parts lines) ys) (sym other-first) (two (first_alike lines others start) start.further_lines))

-- the same first field is alike
same_start : {lines others : List (List ℕ)} → Start ◌≡◌ lines others → Start Alike lines others
same_start {lines} start = record {
  first_field = subst (Alike (first_part (fields_of (first_part lines)))) start.first_field (alike_itself (first_part (fields_of (first_part lines))));
  further_fields = start.further_fields;
  further_lines = start.further_lines;
}

-- in front of alike lines, an empty one
pub empty_in_front : {lines others : List (List ℕ)} → Pairwise AlikeLines lines others → Start ◌≡◌ ([] ∷ lines) ([] ∷ others)
unfolding fields_of
empty_in_front alike = record { first_field = refl; further_fields = no_parts; further_lines = alike }

-- in front of two such texts, a comma
pub comma_in_front : {lines others : List (List ℕ)} → Start Alike lines others → Start ◌≡◌ (in_front comma lines) (in_front comma others)
unfolding fields_of
comma_in_front {lines} {others} start =
    record {
      first_field = rw (first_in_front comma lines, first_in_front comma others);
      further_fields = rw (first_in_front comma lines, first_in_front comma others) (first_alike lines others start);
      further_lines = rw (others_in_front comma lines, others_in_front comma others) start.further_lines;
    }

-- in front of two with the same first field, a byte of a field
byte_in_front : (byte : ℕ) {lines others : List (List ℕ)} → (byte ≡ comma → ⊥) → Start ◌≡◌ lines others → Start ◌≡◌ (in_front byte lines) (in_front byte others)
byte_in_front byte {lines} {others} no_comma start =
    let first = stays_in_field byte (first_part lines) no_comma in
    let second = stays_in_field byte (first_part others) no_comma in
    let these = fields_of (first_part lines) in
    let those = fields_of (first_part others) in
    record {
      first_field =
          rw (first_in_front byte lines, first_in_front byte others, first, second, first_in_front byte these, first_in_front byte those)
          (ap (λ (field : List ℕ). byte ∷ field) start.first_field);
      further_fields = rw (first_in_front byte lines, first_in_front byte others, first, second, others_in_front byte these, others_in_front byte those) start.further_fields;
      further_lines = rw (others_in_front byte lines, others_in_front byte others) start.further_lines;
    }

-- any byte in front of two such texts, where it ends a line in both or in none
any_in_front :
    (byte : ℕ) (text other : List ℕ) → begins_with LF text ≡ begins_with LF other → Pairwise AlikeLines (lines_of text) (lines_of other) → Start ◌≡◌ (lines_of text) (lines_of other)
    → Start ◌≡◌ (lines_of (byte ∷ text)) (lines_of (byte ∷ other))
unfolding lines_of
any_in_front byte text other same_end alike start =
    subst (λ (begins : Bool). Start ◌≡◌ (elim (eqb byte LF) [ true ↦ [] ∷ lines_of text | false ↦ elim (eqb byte CR && begins) [ true ↦ lines_of text | false ↦ in_front byte (lines_of text) ] ]) (lines_of (byte ∷ other)))
    (sym same_end) (go (eqb byte LF) (eqb byte CR && begins_with LF other) (eqb byte comma) refl)
  where
    go :
        (is-LF ends is-comma : Bool) → eqb byte comma ≡ is-comma
        → Start ◌≡◌ (elim is-LF [ true ↦ [] ∷ lines_of text | false ↦ elim ends [ true ↦ lines_of text | false ↦ in_front byte (lines_of text) ] ])
        (elim is-LF [ true ↦ [] ∷ lines_of other | false ↦ elim ends [ true ↦ lines_of other | false ↦ in_front byte (lines_of other) ] ])
    go true ends is-comma is = empty_in_front alike
    go false true is-comma is = start
    go false false true is = rw (eqb-true byte comma is) (comma_in_front (same_start start))
    go false false false is = byte_in_front byte (eqb-false byte comma is) start

-- bytes in front of a byte that ends a field
module _ (byte : ℕ) (text other : List ℕ) (start : Start ◌≡◌ (lines_of (byte ∷ text)) (lines_of (byte ∷ other))) where
  same_first : (front : List ℕ) → begins_with LF (front ++ (byte ∷ text)) ≡ begins_with LF (front ++ (byte ∷ other))
  same_first [] = refl
  same_first (first ∷ front) = refl

  alike_behind : (front : List ℕ) → Start ◌≡◌ (lines_of (front ++ (byte ∷ text))) (lines_of (front ++ (byte ∷ other))) → Pairwise AlikeLines (lines_of (front ++ (byte ∷ text))) (lines_of (front ++ (byte ∷ other)))
  alike_behind [] starts = all_alike _ _ (some_line byte text) (some_line byte other) (same_start starts)
  alike_behind (first ∷ front) starts = all_alike _ _ (some_line first (front ++ (byte ∷ text))) (some_line first (front ++ (byte ∷ other))) (same_start starts)

  bytes_in_front : (front : List ℕ) → Start ◌≡◌ (lines_of (front ++ (byte ∷ text))) (lines_of (front ++ (byte ∷ other)))
  bytes_in_front [] = start
  bytes_in_front (first ∷ front) =
      let behind = bytes_in_front front in
      any_in_front first (front ++ (byte ∷ text)) (front ++ (byte ∷ other)) (same_first front) (alike_behind front behind) behind

  -- such texts are the same
  pub same_behind : (front : List ℕ) → text_of ((front ++ (byte ∷ [])) ++ text) ≡ text_of ((front ++ (byte ∷ [])) ++ other)
  unfolding text_of
  same_behind front = rw (append_snoc front byte text, append_snoc front byte other) (alike_headed (alike_behind front (bytes_in_front front)))
