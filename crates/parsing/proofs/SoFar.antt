-- The way through the lines behind the header: where it begins, one more row, a line that is none, and the end.
use mathlib.Core.Path.{◌≡◌, refl, sym, ap, subst, ◌∙◌}
use Prim.Native.Nat.{ℕ, suc, ◌+◌, ◌<◌}
use native.Mathlib.Omega.{arith}
use mathlib.Core.Bool.{Bool, true, false, ◌&&◌}
use mathlib.Core.List.{List, [], ◌∷◌, ◌++◌, append-nil}
use mathlib.Core.Option.{none}
use lib.Dec.{leb, eqb}
use lib.ListN.{length, set, length-append}
use Rattle.std.proofs.lemmas.List.{nil_from_length}
use borrow.Author.Tests.{ne_eqb, eq-eqb, leb-false}
use Rattle.std.specs.Prelude.{Some, Ok, Err}
use Rattle.answers.specs.declared.Refusal.{Refusal}
use Rattle.answers.specs.Answer.{Answer}
use Rattle.answers.specs.declared.Refusal.TheVariants.{CoresOutOfRange, RowsOutOfRange, RowBreaksLimits}
use Rattle.theory.specs.Row.{Row, within_limits}
use Rattle.theory.specs.Lists.{rows_of}
use Rattle.rows.specs.Values.{row_of}
use Rattle.records.specs.Reading.{Reading, table, refused}
use Rattle.rows.specs.Held.{held_rows, Held}
use Rattle.reading.specs.Read.{refused_by}
use Rattle.rows.proofs.Fronts.{held_rows_one_more}
use Rattle.texts.specs.Text.{Text, of_rows, not_of_the_form, lines_of, row_in, with_row, rows_from, text_of}
use Rattle.texts.specs.Rest.{rest_of_line, lines_behind}
use Rattle.texts.specs.Table.{judged, table_from, in_rows_place, on_cores, read_text}
use Rattle.texts.proofs.Lines.{some_line}
use Rattle.fields.specs.declared.Line.{Line}
use Rattle.fields.specs.Found.{first_fields, capped_row, IsHeader, FirstRow}
use Rattle.fields.proofs.Left.{shorter}
use Rattle.parsing.specs.Judging.{judged_row, judged_table}
use Rattle.parsing.proofs.Judging.{Judging, none_judged, capped_within, row_judged}
use Rattle.parsing.proofs.Header.{header_read}

-- rows in front of what the lines behind them are
unfoldable pub with_rows : List Row → Text → Text
with_rows [] text = text
with_rows (row ∷ rows) text = with_row row (with_rows rows text)

with_one_more : (rows : List Row) (row : Row) (text : Text) → with_rows (rows ++ (row ∷ [])) text ≡ with_rows rows (with_row row text)
unfolding with_rows
with_one_more [] row text = refl
with_one_more (first ∷ rows) row text = ap (with_row first) (with_one_more rows row text)

with_broken : (rows : List Row) (line : ℕ) → with_rows rows (not_of_the_form line) ≡ not_of_the_form line
unfolding with_rows with_row
with_broken [] line = refl
with_broken (row ∷ rows) line = ap (with_row row) (with_broken rows line)

with_none : (rows : List Row) → with_rows rows (of_rows []) ≡ of_rows rows
unfolding with_rows with_row
with_none [] = refl
with_none (row ∷ rows) = ap (with_row row) (with_none rows)

-- where the reading stands: the lines left are still to be read, behind the rows that have been
pub record SoFar (text : List ℕ) (c d t : List ℕ) (n : ℕ) (fault : Answer) (rest : List ℕ) : Type 0 where
  pub so_far : List Row
  pub many : length so_far ≡ n
  pub reads_on : text_of text ≡ with_rows so_far (rows_from (n + 2) (lines_of rest))
  pub judging : Judging so_far fault
  pub kept : fault ≡ Ok tt → so_far ≡ held_rows n c d t
  pub c_long : length c ≡ 24
  pub d_long : length d ≡ 24
  pub t_long : length t ≡ 24
  pub lines_few : n + length rest < length text

-- a row that is taken is behind rows without a fault, and there is room for it
pub row_taken : (fault : Answer) (n : ℕ) (row : Row) → judged_row fault n row ≡ Ok tt → (fault ≡ Ok tt) × (n < 24) × (within_limits row ≡ true)
row_taken (Err fault) n row taken = cc
row_taken (Ok sound) n row taken = go (leb 24 n) refl (within_limits row) refl taken
  where
    go :
        (full : Bool) → leb 24 n ≡ full → (within : Bool) → within_limits row ≡ within
        → ◌≡◌ {A = Answer} (elim full [ true ↦ Err RowsOutOfRange | false ↦ elim within [ true ↦ Ok tt | false ↦ Err (RowBreaksLimits (n + 1)) ] ]) (Ok tt)
        → (◌≡◌ {A = Answer} (Ok sound) (Ok tt)) × (n < 24) × (within_limits row ≡ true)
    go true is_full within limits taken = cc
    go false is_full true limits taken = (refl, leb-false 24 n is_full, limits)
    go false is_full false limits taken = cc

-- there is a line left
some_line_left : (rest : List ℕ) → (length rest ≡ 0 → ⊥) → lines_of rest ≡ rest_of_line rest ∷ lines_behind rest
some_line_left [] left = absurd (left refl)
some_line_left (byte ∷ rest) left = some_line byte rest

module _ (text : List ℕ) where
  -- behind the header, with no rows yet
  pub begins : (c d t : List ℕ) → length c ≡ 24 → length d ≡ 24 → length t ≡ 24 → (rest : List ℕ) → IsHeader text (Some rest) → SoFar text c d t 0 (Ok tt) rest
  unfolding with_rows rows_of
  begins c d t c_long d_long t_long rest found =
      record {
        so_far = [];
        many = refl;
        reads_on = header_read text rest found;
        judging = none_judged;
        kept = λ sound. refl;
        c_long = c_long;
        d_long = d_long;
        t_long = t_long;
        lines_few = omega (arith, shorter found.2);
      }

  module _ {c d t : List ℕ} {n : ℕ} {fault : Answer} {rest : List ℕ} (stands : SoFar text c d t n fault rest) (left : length rest ≡ 0 → ⊥) where
    module _ (line : Line) (found : FirstRow rest line) where
      abbrev taken : Row
      taken = row_of line.row

      next_line : rows_from (n + 2) (lines_of rest) ≡ with_row found.row (rows_from (suc (n + 2)) (lines_of line.rest.now))
      unfolding rows_from
      next_line = ap (rows_from (n + 2)) (some_line_left rest left) ∙ rw (found.is_row, rows_from) (ap (λ lines. with_row found.row (rows_from (suc (n + 2)) lines)) found.lines_follow)

      -- a row without a fault is kept behind the others
      pub kept_one_more : judged_row fault n taken ≡ Ok tt → stands.so_far ++ (found.row ∷ []) ≡ held_rows (n + 1) (set c n line.row.c) (set d n line.row.d) (set t n line.row.t)
      kept_one_more sound =
          let before = row_taken fault n taken sound in
          let held : Held n c d t = record { no_25th_row = omega (arith, before.1); c_long = stands.c_long; d_long = stands.d_long; t_long = stands.t_long } in
          let same : taken ≡ found.row = found.as_held ∙ capped_within found.row (ap within_limits (sym found.as_held) ∙ before.2) in
          ap (λ (rows : List Row). rows ++ (found.row ∷ [])) (stands.kept before.0)
          ∙ ap (λ (one : Row). held_rows n c d t ++ (one ∷ [])) (sym same)
          ∙ sym (held_rows_one_more c d t n held before.1 line.row.c line.row.d line.row.t)

      -- behind one more row
      pub goes_on :
          {kept_c kept_d kept_t : List ℕ} {judges : Answer} → judges ≡ judged_row fault n taken
          → (judges ≡ Ok tt → stands.so_far ++ (found.row ∷ []) ≡ held_rows (n + 1) kept_c kept_d kept_t)
          → length kept_c ≡ length c → length kept_d ≡ length d → length kept_t ≡ length t
          → SoFar text kept_c kept_d kept_t (n + 1) judges line.rest.now
      goes_on is_fault kept c_long d_long t_long =
          let number : suc (n + 2) ≡ n + 1 + 2 = omega arith in
          record {
            so_far = stands.so_far ++ (found.row ∷ []);
            many = omega (arith, length-append stands.so_far (found.row ∷ []), stands.many);
            reads_on =
                stands.reads_on
                ∙ ap (with_rows stands.so_far) (next_line ∙ ap (λ (k : ℕ). with_row found.row (rows_from k (lines_of line.rest.now))) number)
                ∙ sym (with_one_more stands.so_far found.row (rows_from (n + 1 + 2) (lines_of line.rest.now)));
            judging =
                subst (Judging (stands.so_far ++ (found.row ∷ [])))
                (ap (λ (k : ℕ). judged_row fault k (capped_row found.row)) stands.many ∙ ap (judged_row fault n) (sym found.as_held) ∙ sym is_fault)
                (row_judged stands.so_far found.row fault stands.judging);
            kept = kept;
            c_long = c_long ∙ stands.c_long;
            d_long = d_long ∙ stands.d_long;
            t_long = t_long ∙ stands.t_long;
            lines_few = omega (arith, shorter found.left_behind, stands.lines_few);
          }

    -- a line that is no row
    pub breaks : (cores : ℕ) → row_in (first_fields rest) ≡ none → read_text cores text ≡ refused 9 (in_rows_place (n + 2))
    unfolding rows_from on_cores read_text
    breaks cores no_row =
        ap (on_cores cores) (stands.reads_on ∙ ap (with_rows stands.so_far) (ap (rows_from (n + 2)) (some_line_left rest left) ∙ rw (no_row, rows_from)) ∙ with_broken stands.so_far (n + 2))

  -- at the end of the text
  module _ (cores : ℕ) {c d t : List ℕ} {n : ℕ} {fault : Answer} {rest : List ℕ} (stands : SoFar text c d t n fault rest) (past : length rest ≡ 0) where
    all_rows : text_of text ≡ of_rows stands.so_far
    unfolding rows_from lines_of
    all_rows = stands.reads_on ∙ ap (λ left. with_rows stands.so_far (rows_from (n + 2) (lines_of left))) (nil_from_length rest past) ∙ with_none stands.so_far

    -- what is read, by the answer to all rows
    abbrev Comes : Reading → Answer → Type 0
    Comes reading (Ok sound) = (reading ≡ table (record { cores = cores; rows = held_rows n c d t })) × Held n c d t
    Comes reading (Err refusal) = reading ≡ refused_by refusal

    -- some rows
    rows_end : (found : Answer) → fault ≡ found → Judging stands.so_far found → Comes (judged 1 stands.so_far (table (record { cores = cores; rows = stands.so_far }))) found
    unfolding judged
    rows_end (Err refusal) same judges = ap (λ (rows : List Row). judged 1 rows (table (record { cores = cores; rows = stands.so_far }))) (sym (append-nil stands.so_far)) ∙ judges [] _
    rows_end (Ok sound) same judges = (
      ap (λ (rows : List Row). judged 1 rows (table (record { cores = cores; rows = stands.so_far }))) (sym (append-nil stands.so_far))
          ∙ judges.1 [] _
          ∙ ap (λ (rows : List Row). table (record { cores = cores; rows = rows })) (stands.kept same),
      record { no_25th_row = omega (arith, stands.many, judges.0); c_long = stands.c_long; d_long = stands.d_long; t_long = stands.t_long },
    )

    judged_end : Comes (read_text cores text) (judged_table cores n fault)
    unfolding on_cores table_from read_text
    judged_end = subst (λ (reading : Reading). Comes reading (judged_table cores n fault)) (ap (on_cores cores) (sym all_rows)) (go (leb 1 cores && leb cores 8) stands.so_far refl)
      where
        go :
            (in_range : Bool) (rows : List Row) → rows ≡ stands.so_far
            → Comes
            (elim in_range [ true ↦ elim rows [ [] ↦ refused 3 0 | row ∷ others ↦ judged 1 (row ∷ others) (table (record { cores = cores; rows = row ∷ others })) ] | false ↦ refused 2 0 ])
            (elim in_range [ true ↦ elim (eqb n 0) [ true ↦ Err RowsOutOfRange | false ↦ fault ] | false ↦ Err CoresOutOfRange ])
        go false rows same = refl
        go true [] same = rw (eq-eqb n 0 (omega (arith, stands.many, ap length same))) refl
        go true (row ∷ others) same =
            rw (ne_eqb n 0 (λ no_rows. omega (arith, stands.many, ap length same)))
            (subst (λ (rows : List Row). Comes (judged 1 rows (table (record { cores = cores; rows = rows }))) fault) (sym same) (rows_end fault refl stands.judging))

    pub ends_refused : {refusal : Refusal} {answer : Answer} → answer ≡ judged_table cores n fault → answer ≡ Err refusal → read_text cores text ≡ refused_by refusal
    ends_refused judges refuses = subst (Comes (read_text cores text)) (sym judges ∙ refuses) judged_end

    pub ends : {answer : Answer} → answer ≡ judged_table cores n fault → answer ≡ Ok tt → (read_text cores text ≡ table (record { cores = cores; rows = held_rows n c d t })) × Held n c d t
    ends judges accepts = subst (Comes (read_text cores text)) (sym judges ∙ accepts) judged_end
