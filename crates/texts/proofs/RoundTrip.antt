-- THE ROUND TRIP: the first three columns of the text that is written are the table that it was written for; the text itself is not read.
use mathlib.Core.Path.{◌≡◌, refl, sym, ap, subst, ◌∙◌}
use Prim.Native.Nat.{ℕ, ◌≤◌}
use native.Mathlib.Omega.{arith}
use mathlib.Core.Bool.{false}
use mathlib.Core.List.{List, [], ◌∷◌, flat_map}
use lib.ListN.{length}
use borrow.Author.Tests.{le-leb}
use Rattle.theory.specs.Row.{Row, AllWithin}
use Rattle.theory.specs.Gather.{All, every}
use Rattle.placement.specs.Core.{Table}
use Rattle.placement.specs.Figures.{Figures}
use Rattle.records.specs.Reading.{table, TableWithin}
use Rattle.listing.specs.Listing.{ascii, decimal}
use Rattle.texts.specs.Text.{in_front, lines_of, fields_of, held, names, same_bytes, hold, of_rows, not_of_the_form, headed, text_of}
use Rattle.texts.proofs.Judged.{within_judged}
use Rattle.texts.proofs.Reading.{read_text_within, read_text_cores}
use Rattle.texts.specs.Table.{on_cores, table_from, read_text}
use Rattle.texts.specs.Columns.{all_names, certified_line, certified_lines, certified_text, first_columns}
use Rattle.texts.specs.Forms.{joined, plain, NumberField, digits, header, numbers, CR_LF, line_end, RowLines, no_rows, with_this_row, Written, written}
use Rattle.texts.proofs.Lines.{Ordinary}
use Rattle.texts.proofs.Fields.{number_field_ordinary}
use Rattle.texts.proofs.Forms.{name_ordinary, written_read}
use Rattle.texts.proofs.Joined.{OrdinaryFields, line_of_lem, line_of_read, first_columns_line}

-- a number's digits are a field that holds it
decimal_field : (n : ℕ) → NumberField n (decimal n)
decimal_field n = digits 0 plain

decimal_ordinary : (n : ℕ) → All Ordinary (decimal n)
decimal_ordinary n = number_field_ordinary (decimal_field n)

names_ordinary : OrdinaryFields all_names
unfolding all_names names ascii every
names_ordinary =
    let own = name_ordinary in
    (own (ascii "wcet") tt, (own (ascii "deadline") tt, (own (ascii "period") tt, (own (ascii "core") tt, (own (ascii "response") tt, (own (ascii "allowance") tt, tt))))))

-- the first columns of the lines that are written are of the grammar
first_columns_lines : (rows : List Row) (all : List Figures) → length all ≡ length rows → RowLines rows (first_columns (certified_lines rows all))
unfolding certified_lines certified_line first_columns lines_of flat_map
first_columns_lines [] all as_many = no_rows
first_columns_lines (row ∷ rows) [] as_many = absurd (omega arith)
first_columns_lines (row ∷ rows) (figures ∷ all) as_many =
    let behind = first_columns (certified_lines rows all) in
    let own = decimal_ordinary in
    let line = first_columns_line (decimal row.C) (decimal row.D ∷ (decimal row.T ∷ (decimal figures.core ∷ (decimal figures.response ∷ (decimal figures.allowance ∷ []))))) (certified_lines rows all)
    (own row.C, (own row.D, (own row.T, (own figures.core, (own figures.response, (own figures.allowance, tt)))))) in
    subst (RowLines (row ∷ rows)) (sym (line ∙ line_of_lem (decimal row.C ∷ (decimal row.D ∷ (decimal row.T ∷ []))) behind))
    (with_this_row (numbers (decimal_field row.C) (decimal_field row.D) (decimal_field row.T)) (line_end behind CR_LF) (first_columns_lines rows all (omega arith)))

-- so are those of the text
pub first_columns_written : (rows : List Row) (all : List Figures) → length all ≡ length rows → Written rows (first_columns (certified_text rows all))
unfolding certified_text all_names names
first_columns_written rows all as_many =
    let behind = first_columns (certified_lines rows all) in
    let line = first_columns_line (ascii "wcet") (ascii "deadline" ∷ (ascii "period" ∷ (ascii "core" ∷ (ascii "response" ∷ (ascii "allowance" ∷ []))))) (certified_lines rows all) names_ordinary in
    subst (Written rows) (sym (line ∙ line_of_lem (ascii "wcet" ∷ (ascii "deadline" ∷ (ascii "period" ∷ []))) behind))
    (written (header plain plain plain) (line_end behind CR_LF) (first_columns_lines rows all as_many))

-- THE FIRST THREE COLUMNS ARE READ
pub first_columns_read : (rows : List Row) (all : List Figures) → length all ≡ length rows → text_of (first_columns (certified_text rows all)) ≡ of_rows rows
first_columns_read rows all as_many = written_read (first_columns_written rows all as_many)

-- six names are no header
six_names_no_header : hold (fields_of (joined all_names)) names ≡ false
unfolding all_names names ascii joined fields_of in_front hold held same_bytes
six_names_no_header = refl

-- ALL SIX ARE NOT
pub six_columns_not_read : (rows : List Row) (all : List Figures) → text_of (certified_text rows all) ≡ not_of_the_form 1
unfolding certified_text text_of headed
six_columns_not_read rows all = rw (line_of_read all_names (certified_lines rows all) names_ordinary, six_names_no_header, headed)

-- the rows of a table that keeps the rules are that table on its cores
pub within_table : (t : Table) → TableWithin t → table_from t.cores t.rows ≡ table t
unfolding table_from
within_table t within = go t.rows within.some_row within.no_25th_row within.rows_within
  where
    go : (rows : List Row) → 1 ≤ length rows → length rows ≤ 24 → AllWithin rows → table_from t.cores rows ≡ table (record { cores = t.cores; rows = rows })
    go [] some_row few keep = absurd (omega arith)
    go (row ∷ rows) some_row few keep =
        rw (le-leb 1 t.cores within.some_core, le-leb t.cores 8 within.no_9th_core, table_from)
        (within_judged 1 (row ∷ rows) (table (record { cores = t.cores; rows = row ∷ rows })) (omega arith) keep)

-- THE ROUND TRIP
pub round_trip : (t : Table) (all : List Figures) → TableWithin t → length all ≡ length t.rows → read_text t.cores (first_columns (certified_text t.rows all)) ≡ table t
unfolding read_text on_cores
round_trip t all within as_many = rw (first_columns_read t.rows all as_many, read_text) (within_table t within)

-- WHAT IS WRITTEN FOR A TEXT READS BACK AS THE TEXT DOES, on the same cores
pub text_round_trip : (cores : ℕ) (text : List ℕ) (t : Table) (all : List Figures) → read_text cores text ≡ table t → length all ≡ length t.rows
    → read_text cores (first_columns (certified_text t.rows all)) ≡ read_text cores text
text_round_trip cores text t all is_table_lem as_many =
    ap (λ (given : ℕ). read_text given (first_columns (certified_text t.rows all))) (sym (read_text_cores cores text t is_table_lem))
    ∙ round_trip t all (read_text_within cores text t is_table_lem) as_many
    ∙ sym is_table_lem
