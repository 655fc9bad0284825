-- What a field holds, plain and quoted, and what is known of a field by what it holds.
use mathlib.Core.Path.{◌≡◌, refl, sym, ap, subst, ◌∙◌}
use Prim.Native.Nat.{ℕ, zero, suc, ◌+◌, ◌-◌}
use native.Mathlib.Omega.{arith}
use mathlib.Core.Bool.{Bool, true, false}
use mathlib.Core.List.{List, [], ◌∷◌, ◌++◌, append-nil}
use lib.Dec.{eqb}
use lib.ListN.{length, get_or, take, length-append}
use lib.Seq.{take-append_seam, take-append-add, get_or-append_seam}
use borrow.Author.Tests.{eqb-true, eqb-false, ne_eqb}
use Rattle.theory.specs.Gather.{All}
use Rattle.texts.specs.Text.{quote, begins_with, held}
use Rattle.texts.specs.Rest.{Plain}

-- a field that does not begin with a quote holds all of itself
pub held_plain : (field : List ℕ) → begins_with quote field ≡ false → held field ≡ field
unfolding held
held_plain [] plain = refl
held_plain (byte ∷ field) plain = rw (plain, held)

-- what a field holds that begins with a quote, by its last byte
quoted_cases :
    (Q : List ℕ → Type 0) (field : List ℕ)
    → (get_or field (length field - 1) 0 ≡ quote → Q (take (length field - 1) field))
    → ((get_or field (length field - 1) 0 ≡ quote → ⊥) → Q (quote ∷ field))
    → Q (held (quote ∷ field))
unfolding held
quoted_cases Q field closed not_closed = go (eqb (get_or field (length field - 1) 0) quote) refl
  where
    go : (ends : Bool) → eqb (get_or field (length field - 1) 0) quote ≡ ends → Q (elim ends [ true ↦ take (length field - 1) field | false ↦ quote ∷ field ])
    go true ends = closed (eqb-true _ quote ends)
    go false ends = not_closed (eqb-false _ quote ends)

-- the last place of bytes behind others
last_place : (front behind : List ℕ) (byte : ℕ) → length (front ++ (byte ∷ behind)) - 1 ≡ length front + length behind
last_place front behind byte = omega (arith, length-append front (byte ∷ behind))

-- a quoted field holds what stands between its quotes
pub held_quoted : (content : List ℕ) → held (quote ∷ content ++ (quote ∷ [])) ≡ content
held_quoted content =
    let last : length (content ++ (quote ∷ [])) - 1 ≡ length content = omega (arith, last_place content [] quote) in
    quoted_cases (λ bytes. bytes ≡ content) (content ++ (quote ∷ []))
    (λ ends. rw last (take-append_seam content (quote ∷ [])))
    (λ not_closed. absurd (not_closed (rw last (get_or-append_seam content quote [] 0))))

-- plain bytes do not begin with a quote, and have none at any place
pub plain_begins : (bytes : List ℕ) → All Plain bytes → begins_with quote bytes ≡ false
plain_begins [] plain = refl
plain_begins (byte ∷ bytes) plain = ne_eqb byte quote (λ is-quote. omega (arith, plain.0))

no_quote_at : (bytes : List ℕ) → All Plain bytes → (k : ℕ) → get_or bytes k 0 ≡ quote → ⊥
no_quote_at [] plain k is-quote = omega arith
no_quote_at (byte ∷ bytes) plain zero is-quote = omega (arith, plain.0)
no_quote_at (byte ∷ bytes) plain (suc k) is-quote = no_quote_at bytes plain.1 k is-quote

-- a field is asked whether what it holds is right, and nothing with a quote in it is; right bytes, where the next one makes them wrong
module _ (Right : List ℕ → Type 0) (no_quote : (front behind : List ℕ) → Right (front ++ (quote ∷ behind)) → ⊥) (bytes : List ℕ) (plain : All Plain bytes) where
  -- a plain field that holds the right ends where they do
  pub plain_right :
      (rest : List ℕ) → ((byte : ℕ) (others more : List ℕ) → rest ≡ byte ∷ others → Right (bytes ++ (byte ∷ more)) → ⊥) → begins_with quote (bytes ++ rest) ≡ false
      → Right (held (bytes ++ rest)) → (rest ≡ []) × Right bytes
  plain_right [] not_longer no-opening right = (refl, subst Right (held_plain (bytes ++ []) no-opening ∙ append-nil bytes) right)
  plain_right (byte ∷ others) not_longer no-opening right = absurd (not_longer byte others others refl (subst Right (held_plain (bytes ++ (byte ∷ others)) no-opening) right))

  -- a quoted field that holds the right has its closing quote where they end, and nothing behind it
  pub quoted_right :
      (rest : List ℕ) → ((byte : ℕ) (others more : List ℕ) → rest ≡ byte ∷ others → Right (bytes ++ (byte ∷ more)) → ⊥)
      → Right (held (quote ∷ (bytes ++ rest))) → (rest ≡ quote ∷ []) × Right bytes
  quoted_right [] not_longer =
      quoted_cases (λ content. Right content → ◌≡◌ {A = List ℕ} [] (quote ∷ []) × Right bytes) (bytes ++ [])
      (λ ends right. absurd (no_quote_at (bytes ++ []) (rw append-nil plain) _ ends))
      (λ not_closed right. absurd (no_quote [] (bytes ++ []) right))
  quoted_right (byte ∷ []) not_longer =
      let last : length (bytes ++ (byte ∷ [])) - 1 ≡ length bytes = omega (arith, last_place bytes [] byte) in
      quoted_cases (λ content. Right content → ((byte ∷ []) ≡ quote ∷ []) × Right bytes) (bytes ++ (byte ∷ []))
      (λ ends right.
      (ap (λ x. x ∷ []) (sym (get_or-append_seam bytes byte [] 0) ∙ rw last at ends), subst Right (rw last (take-append_seam bytes (byte ∷ []))) right))
      (λ not_closed right. absurd (no_quote [] (bytes ++ (byte ∷ [])) right))
  quoted_right (byte ∷ (next ∷ more)) not_longer =
      let last : length (bytes ++ (byte ∷ (next ∷ more))) - 1 ≡ length bytes + suc (length more) = last_place bytes (next ∷ more) byte in
      quoted_cases (λ content. Right content → ((byte ∷ (next ∷ more)) ≡ quote ∷ []) × Right bytes) (bytes ++ (byte ∷ (next ∷ more)))
      (λ ends right.
      absurd (not_longer byte (next ∷ more) (take (length more) (next ∷ more)) refl
      (subst Right (rw last (take-append-add bytes (byte ∷ (next ∷ more)) (suc (length more)))) right)))
      (λ not_closed right. absurd (no_quote [] (bytes ++ (byte ∷ (next ∷ more))) right))
