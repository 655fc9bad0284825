-- A field and what stands behind it; three of them are a line.
use mathlib.Core.Path.{◌≡◌, sym, ap, subst, ◌∙◌}
use Prim.Native.Nat.{ℕ}
use mathlib.Core.List.{List, [], ◌∷◌, cons≢nil}
use Rattle.texts.specs.Text.{lines_of, held}
use Rattle.texts.specs.Rest.{first_part, other_parts, rest_of_line, lines_behind, rest_of_field, fields_behind}
use Rattle.texts.proofs.Lines.{some_field}
use Rattle.std.specs.Prelude.{Option, Some, None}
use Rattle.fields.specs.Found.{Behind, comma_behind, line_end_behind, first_fields, EndsAt, Named, Follow, Between, IsBetween, Followed, NotFollowed, IsNameThen}
use Rattle.fields.proofs.Left.{further}

module _ (Right : List ℕ → Type 0) (behind : Behind) (text end : List ℕ) (ends : EndsAt Right text end) where
  -- a right field without what has to stand behind it
  pub not_followed : IsBetween behind end None → NotFollowed Right behind text
  not_followed between right follow = between (ends.only_there right) (subst (Follow behind) ends.same_fields follow)

  -- a right field with it
  pub followed : {rest : List ℕ} → Between behind end rest → Followed Right behind text rest
  followed between =
      record {
        right = ends.right_there between.field_ends;
        fields_follow = ends.same_fields ∙ between.fields_follow;
        lines_follow = ends.same_lines ∙ between.lines_follow;
        left_behind = further ends.left_behind between.left_behind;
      }

-- a name, and what stands behind it or not
pub name_followed :
    (behind : Behind) (name text end : List ℕ) → EndsAt (Named name) text end → (found : Option (List ℕ)) → IsBetween behind end found → IsNameThen behind name text found
name_followed behind name text end ends (Some rest) between = followed (Named name) behind text end ends between
name_followed behind name text end ends None between = not_followed (Named name) behind text end ends between

-- three fields with what has to stand behind each: the fields of the first line
module _ (One Two Three : List ℕ → Type 0) where
  abbrev pub NotThree : List ℕ → Type 0
  NotThree text = (first second third : List ℕ) → first_fields text ≡ first ∷ second ∷ third ∷ [] → One (held first) → Two (held second) → Three (held third) → ⊥

  -- the fields of a line, the first and the others
  fields_are : (text : List ℕ) → first_fields text ≡ rest_of_field text ∷ fields_behind text
  fields_are text = some_field (rest_of_line text)

  first_is : (text : List ℕ) {field : List ℕ} {others : List (List ℕ)} → first_fields text ≡ field ∷ others → field ≡ rest_of_field text
  first_is text same = ap first_part (sym same ∙ fields_are text)

  others_are : (text : List ℕ) {field : List ℕ} {others : List (List ℕ)} → first_fields text ≡ field ∷ others → fields_behind text ≡ others
  others_are text same = ap other_parts (sym (fields_are text) ∙ same)

  -- the first is not so
  pub not_first : (text : List ℕ) → NotFollowed One comma_behind text → NotThree text
  not_first text wrong first second third three one two last = wrong (subst (λ field. One (held field)) (first_is text three) one) (λ none. cons≢nil (sym (others_are text three) ∙ none))

  module _ {text next : List ℕ} (one_followed : Followed One comma_behind text next) where
    behind_first : {first : List ℕ} {others : List (List ℕ)} → first_fields text ≡ first ∷ others → first_fields next ≡ others
    behind_first three = sym one_followed.fields_follow ∙ others_are text three

    -- the second is not so
    pub not_second : NotFollowed Two comma_behind next → NotThree text
    not_second wrong first second third three one two last =
        let two_left = behind_first three in wrong (subst (λ field. Two (held field)) (first_is next two_left) two) (λ none. cons≢nil (sym (others_are next two_left) ∙ none))

    module _ {after : List ℕ} (two_followed : Followed Two comma_behind next after) where
      behind_second : {first second : List ℕ} {others : List (List ℕ)} → first_fields text ≡ first ∷ second ∷ others → first_fields after ≡ others
      behind_second three = sym two_followed.fields_follow ∙ others_are next (behind_first three)

      -- the third is not so
      pub not_third : NotFollowed Three line_end_behind after → NotThree text
      not_third wrong first second third three one two last =
          let one_left = behind_second three in wrong (subst (λ field. Three (held field)) (first_is after one_left) last) (others_are after one_left)

      -- all are
      module _ {rest : List ℕ} (three_followed : Followed Three line_end_behind after rest) where
        pub all_three : first_fields text ≡ rest_of_field text ∷ rest_of_field next ∷ rest_of_field after ∷ []
        all_three =
            fields_are text
            ∙ ap (λ others. rest_of_field text ∷ others) (one_followed.fields_follow ∙ fields_are next)
            ∙ ap (λ others. rest_of_field text ∷ rest_of_field next ∷ others) (two_followed.fields_follow ∙ fields_are after)
            ∙ ap (λ others. rest_of_field text ∷ rest_of_field next ∷ rest_of_field after ∷ others) three_followed.fields_follow

        pub lines_left : lines_behind text ≡ lines_of rest
        lines_left = one_followed.lines_follow ∙ two_followed.lines_follow ∙ three_followed.lines_follow
