-- LF FOR CR LF CHANGES NOTHING, NOR DOES THE LAST LINE END.
use mathlib.Core.Path.{◌≡◌, refl, sym, ap, ◌∙◌}
use Prim.Native.Nat.{ℕ, ◌-◌}
use native.Mathlib.Omega.{arith}
use mathlib.Core.Bool.{Bool, true, false, ◌&&◌}
use mathlib.Core.List.{List, [], ◌∷◌, ◌++◌}
use lib.Dec.{eqb}
use lib.ListN.{length, get_or, length-append}
use lib.Seq.{get_or-append_seam}
use borrow.Author.Tests.{ne_eqb}
use Rattle.listing.specs.Listing.{ascii}
use Rattle.texts.specs.Text.{LF, CR, begins_with, in_front, lines_of, fields_of, held, names, same_bytes, hold, headed, text_of}
use Rattle.texts.specs.Forms.{LineEnd, LF_alone, CR_LF}
use Rattle.texts.proofs.Lines.{stays_in_line}

-- a text that ends in a byte
abbrev pub EndsIn : ℕ → List ℕ → Type 0
EndsIn byte text = (front : List ℕ) × (text ≡ front ++ (byte ∷ []))

-- that is its last byte
pub last_byte : {byte : ℕ} {text : List ℕ} → EndsIn byte text → get_or text (length text - 1) 0 ≡ byte
last_byte {byte} {text} ends =
    let last : length text - 1 ≡ length ends.0 = omega (arith, ap length ends.1, length-append ends.0 (byte ∷ [])) in
    rw (last, ends.1) (get_or-append_seam ends.0 byte [] 0)

-- where a text does not end in a byte, neither does what is left of it behind its first one
ends_behind : (byte first next : ℕ) (text : List ℕ) → (EndsIn byte (first ∷ (next ∷ text)) → ⊥) → EndsIn byte (next ∷ text) → ⊥
ends_behind byte first next text not_so ends = not_so (first ∷ ends.0, ap (λ others. first ∷ others) ends.1)

-- a byte in front of two texts with the same lines, where it ends a line in both or in none
same_in_front : (byte : ℕ) (text other : List ℕ) → eqb byte CR && begins_with LF text ≡ eqb byte CR && begins_with LF other → lines_of text ≡ lines_of other
    → lines_of (byte ∷ text) ≡ lines_of (byte ∷ other)
unfolding lines_of
same_in_front byte text other same_end same_lines =
    ap (λ (ends : Bool). elim (eqb byte LF) [ true ↦ [] ∷ lines_of text | false ↦ elim ends [ true ↦ lines_of text | false ↦ in_front byte (lines_of text) ] ]) same_end
    ∙ ap (λ (lines : List (List ℕ)). elim (eqb byte LF) [ true ↦ [] ∷ lines | false ↦ elim (eqb byte CR && begins_with LF other) [ true ↦ lines | false ↦ in_front byte lines ] ]) same_lines

-- a line ends in LF as in CR LF, where no CR stands before that
same_lines : (front behind : List ℕ) → (EndsIn CR front → ⊥) → lines_of (front ++ (CR ∷ (LF ∷ behind))) ≡ lines_of (front ++ (LF ∷ behind))
unfolding lines_of
same_lines [] behind no_CR = refl
same_lines (byte ∷ []) behind no_CR =
    same_in_front byte (CR ∷ (LF ∷ behind)) (LF ∷ behind) (rw (ne_eqb byte CR (λ is-CR. no_CR ([], ap (λ first. first ∷ []) is-CR)))) refl
same_lines (byte ∷ (next ∷ front)) behind no_CR =
    same_in_front byte (next ∷ (front ++ (CR ∷ (LF ∷ behind)))) (next ∷ (front ++ (LF ∷ behind))) refl (same_lines (next ∷ front) behind (ends_behind CR byte next front no_CR))

-- a CR in front of CR LF would become part of the line end
pub line_end_changes_nothing : (front behind : List ℕ) → (EndsIn CR front → ⊥) → text_of (front ++ (CR ∷ (LF ∷ behind))) ≡ text_of (front ++ (LF ∷ behind))
unfolding text_of
line_end_changes_nothing front behind no_CR = ap headed (same_lines front behind no_CR)

-- the last line has its lines with CR LF or without
same_last : (byte : ℕ) (text : List ℕ) → (EndsIn LF (byte ∷ text) → ⊥) → lines_of (byte ∷ (text ++ (CR ∷ (LF ∷ [])))) ≡ lines_of (byte ∷ text)
unfolding lines_of in_front
same_last byte [] no_LF =
    let in_line : byte ≡ LF → ⊥ = λ is-LF. no_LF ([], ap (λ first. first ∷ []) is-LF) in
    stays_in_line byte (CR ∷ (LF ∷ [])) in_line (λ is-CR. refl) ∙ sym (stays_in_line byte [] in_line (λ is-CR. refl))
same_last byte (next ∷ text) no_LF = same_in_front byte (next ∷ (text ++ (CR ∷ (LF ∷ [])))) (next ∷ text) refl (same_last next text (ends_behind LF byte next text no_LF))

-- the last CR LF, behind a line that has no end
pub last_CR_LF_changes_nothing : (text : List ℕ) → (EndsIn LF text → ⊥) → text_of (text ++ (CR ∷ (LF ∷ []))) ≡ text_of text
unfolding text_of headed lines_of fields_of held names ascii hold same_bytes
last_CR_LF_changes_nothing [] no_LF = refl
last_CR_LF_changes_nothing (byte ∷ text) no_LF = ap headed (same_last byte text no_LF)

-- either end; in front of LF alone no CR stands
pub last_end_changes_nothing : {end : List ℕ} (text : List ℕ) → LineEnd end → (EndsIn LF text → ⊥) → (EndsIn CR text → ⊥) → text_of (text ++ end) ≡ text_of text
last_end_changes_nothing text LF_alone no_LF no_CR = sym (line_end_changes_nothing text [] no_CR) ∙ last_CR_LF_changes_nothing text no_LF
last_end_changes_nothing text CR_LF no_LF no_CR = last_CR_LF_changes_nothing text no_LF
