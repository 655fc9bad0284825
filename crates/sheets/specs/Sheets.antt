-- Sheets 1 to 10 of document 01 and those of document 02's requests 1 and 2, as one list, and what each entry says.
use Rattle.std.specs.Prelude.{◌≡◌, ℕ, zero, suc, ◌≤◌, ◌<◌, ◌↔◌, ℤ, pos, negsuc, length}
use mathlib.Core.List.{List, [], ◌∷◌, ◌++◌, map, Memᴰ}
use Rattle.theory.specs.Returned.{Returned, returned}
use Rattle.theory.specs.Row.{Row}
use Rattle.theory.specs.Points.{points, slack, quotient, IsBound}
use Rattle.theory.specs.Utilisation.{CommonMultiple, work}
use Rattle.theory.specs.Lists.{filled, SetAnswered, PointAnswered}
use Rattle.theory.specs.Explanation.{Explained}
use Rattle.placement.specs.Core.{Table}
use Rattle.placement.specs.Order.{taken}
use Rattle.placement.specs.Choice.{allowance_fit}
use Rattle.records.specs.Report.{table_bytes, report_length}
use Rattle.listing.specs.Listing.{ascii}
use Rattle.service.specs.Table.{TableAnswered, Listed}
use Rattle.service.specs.Text.{TextAnswered, TextTabled}

-- what a sheet says. Rows go by their places, which count from 0: place 1 is row 2. A refusal is its number and its row, which counts from 1; so do the rows
-- of an explanation: the row asked about, and the row that limits it. A text stands behind its number of cores
pub data Sheet : Type 0 where
  set_accepted : List Row → List ℕ → List ℕ → Sheet
  set_refused : List Row → ℕ → ℕ → Sheet
  below_one : List Row → ℕ → Sheet
  walk_yields : List Row → ℕ → List ℕ → Sheet
  points_as_set : List Row → ℕ → List ℕ → Sheet
  bound_on : List Row → ℕ → ℕ → ℤ → Sheet
  slack_at : List Row → ℕ → ℕ → ℤ → Sheet
  quotient_at : List Row → ℕ → ℕ → ℕ → ℤ → Sheet
  order_taken : List Row → List ℕ → Sheet
  listed : Table → List ℕ → Sheet
  table_refused : Table → ℕ → ℕ → Sheet
  limited_by : List Row → ℕ → ℕ → ℕ → Sheet
  why_refused : List Row → ℕ → ℕ → ℕ → Sheet
  text_accepted : ℕ → List ℕ → List ℕ → Sheet
  text_refused : ℕ → List ℕ → ℕ → ℕ → Sheet
  text_tabled : ℕ → List ℕ → List ℕ → Sheet

-- the three lists that a set's rows are
abbrev pub executions : List Row → List ℕ
executions rows = map (λ row. row.C) rows

abbrev pub deadlines : List Row → List ℕ
deadlines rows = map (λ row. row.D) rows

abbrev pub periods : List Row → List ℕ
periods rows = map (λ row. row.T) rows

-- both list services return the same on the rows, and leave the lists with given content, whatever two long enough lists are lent
abbrev pub BothAnswer : List Row → Returned → (List ℕ → List ℕ) → (List ℕ → List ℕ) → Type 0
BothAnswer rows returns first second =
    (responses allowances : List ℕ)
    → length rows ≤ length responses
    → length rows ≤ length allowances
    → SetAnswered (executions rows) (deadlines rows) (periods rows) responses allowances returns (first responses) (second allowances)
    × PointAnswered (executions rows) (deadlines rows) (periods rows) responses allowances returns (first responses) (second allowances)

-- THE STATEMENT about a sheet
abbrev pub Holds : Sheet → Type 0
Holds (set_accepted rows responses allowances) = BothAnswer rows (returned 0 0) (filled responses) (filled allowances)
Holds (set_refused rows number row) = BothAnswer rows (returned number row) (λ before. before) (λ before. before)
Holds (below_one rows P) = CommonMultiple rows P × (work rows P < P)
Holds (walk_yields rows k times) = points rows k ≡ times
Holds (points_as_set rows k times) = (p : ℕ) → Memᴰ p (points rows k) ↔ Memᴰ p times
Holds (bound_on rows k i b) = IsBound rows k i b
Holds (slack_at rows k t z) = slack rows k t ≡ z
Holds (quotient_at rows k i t z) = quotient rows k i t ≡ z
Holds (order_taken rows order) = taken rows ≡ order
Holds (listed table text) = Listed allowance_fit (table_bytes table) text
Holds (table_refused table number row) =
    (report : List ℕ) → report_length (length table.rows) ≤ length report → TableAnswered allowance_fit (table_bytes table) report (returned number row) report
Holds (limited_by rows asked limiting p) = Explained (executions rows) (deadlines rows) (periods rows) asked (returned 0 0) limiting p
Holds (why_refused rows asked number row) = Explained (executions rows) (deadlines rows) (periods rows) asked (returned number row) 0 0
Holds (text_accepted cores text written) =
    (lent : List ℕ)
    → (length written ≤ length lent → TextAnswered allowance_fit cores text lent (returned 0 0) (length written) (filled written lent))
    × (length lent < length written → TextAnswered allowance_fit cores text lent (returned 7 0) 0 lent)
Holds (text_refused cores text number row) = (lent : List ℕ) → TextAnswered allowance_fit cores text lent (returned number row) 0 lent
Holds (text_tabled cores text bytes) = (lent : List ℕ) → length bytes ≤ length lent → TextTabled cores text lent (returned 0 0) (length bytes) (filled bytes lent)

-- a row, written C/D/T in the document
unfoldable pub row : ℕ → ℕ → ℕ → Row
row c d t = record { C = c; D = d; T = t }

-- the four rows of 001, table 1
unfoldable pub the_four : List Row
unfolding row
the_four = row 10 60 70 ∷ row 15 85 100 ∷ row 30 190 210 ∷ row 45 260 320 ∷ []

-- the listing of sheet 3, line by line
listing_of_the_four : List ℕ
listing_of_the_four =
    ascii "row core response allowance\n"
    ++ ascii "1 2 10 50\n"
    ++ ascii "2 1 15 47\n"
    ++ ascii "3 1 45 95\n"
    ++ ascii "4 1 90 110\n"
    ++ ascii "system 47\n"

-- a header's line and others
unfoldable pub under_header : List ℕ → List ℕ
under_header lines = ascii "wcet,deadline,period\r\n" ++ lines

-- the four rows as a text; quoted throughout, with LF and no last line end; and the text with three columns more
unfoldable pub text_of_the_four : List ℕ
unfolding under_header
text_of_the_four = under_header (ascii "10,60,70\r\n" ++ ascii "15,85,100\r\n" ++ ascii "30,190,210\r\n" ++ ascii "45,260,320\r\n")

unfoldable pub quoted_text_of_the_four : List ℕ
quoted_text_of_the_four =
    ascii "\"wcet\",\"deadline\",\"period\"\n"
    ++ ascii "\"10\",\"60\",\"70\"\n"
    ++ ascii "\"15\",\"85\",\"100\"\n"
    ++ ascii "\"30\",\"190\",\"210\"\n"
    ++ ascii "\"45\",\"260\",\"320\""

unfoldable pub columns_of_the_four : List ℕ
columns_of_the_four =
    ascii "wcet,deadline,period,core,response,allowance\r\n"
    ++ ascii "10,60,70,2,10,50\r\n"
    ++ ascii "15,85,100,1,15,47\r\n"
    ++ ascii "30,190,210,1,45,95\r\n"
    ++ ascii "45,260,320,1,90,110\r\n"

-- the rows of sheet 4, which no two cores take, as a text
unfoldable pub text_of_sheet_four : List ℕ
unfolding under_header
text_of_sheet_four = under_header (ascii "6,10,10\r\n" ++ ascii "4,10,10\r\n" ++ ascii "4,10,10\r\n" ++ ascii "3,10,10\r\n" ++ ascii "3,10,10\r\n")

-- a line as many times
unfoldable pub repeated : ℕ → List ℕ → List ℕ
repeated zero line = []
repeated (suc n) line = line ++ repeated n line

-- THE SHEETS
unfoldable pub sheets : List Sheet
unfolding row the_four listing_of_the_four under_header text_of_the_four quoted_text_of_the_four columns_of_the_four text_of_sheet_four repeated
sheets =
    -- 1
    set_accepted the_four (10 ∷ 25 ∷ 55 ∷ 125 ∷ []) (21 ∷ 32 ∷ 65 ∷ 70 ∷ [])
    -- 2: row 4's walk yields seven, which are four points; its bound on row 1
    ∷ walk_yields the_four 3 (140 ∷ 200 ∷ 210 ∷ 140 ∷ 200 ∷ 210 ∷ 260 ∷ [])
    ∷ points_as_set the_four 3 (140 ∷ 200 ∷ 210 ∷ 260 ∷ [])
    ∷ bound_on the_four 3 0 (pos 21)
    -- 3: rows 2, 1, 3, 4
    ∷ order_taken the_four (1 ∷ 0 ∷ 2 ∷ 3 ∷ [])
    ∷ listed (record { cores = 2; rows = the_four }) listing_of_the_four
    -- 4
    ∷ table_refused (record { cores = 2; rows = row 6 10 10 ∷ row 4 10 10 ∷ row 4 10 10 ∷ row 3 10 10 ∷ row 3 10 10 ∷ [] }) 6 5
    -- 4: although the rows would fit otherwise
    ∷ set_accepted (row 6 10 10 ∷ row 4 10 10 ∷ []) (6 ∷ 10 ∷ []) (0 ∷ 0 ∷ [])
    ∷ set_accepted (row 4 10 10 ∷ row 3 10 10 ∷ row 3 10 10 ∷ []) (4 ∷ 7 ∷ 10 ∷ []) (0 ∷ 0 ∷ 0 ∷ [])
    -- 5
    ∷ set_accepted (row 1 1 1 ∷ []) (1 ∷ []) (0 ∷ [])
    -- 6
    ∷ set_accepted (row 1 1000000 1000000 ∷ []) (1 ∷ []) (999999 ∷ [])
    -- 7
    ∷ set_accepted (row 5 10 10 ∷ row 5 10 10 ∷ []) (5 ∷ 10 ∷ []) (0 ∷ 0 ∷ [])
    -- 8
    ∷ set_refused (row 5 10 10 ∷ row 6 14 14 ∷ []) 8 2
    ∷ below_one (row 5 10 10 ∷ row 6 14 14 ∷ []) 70
    -- 9
    ∷ set_accepted (row 5 10 10 ∷ row 10 20 20 ∷ []) (5 ∷ 20 ∷ []) (0 ∷ 0 ∷ [])
    -- 10
    ∷ set_refused (row 5 10 10 ∷ row 11 20 20 ∷ []) 8 2
    ∷ slack_at (row 5 10 10 ∷ row 11 20 20 ∷ []) 1 20 (negsuc 0)
    ∷ quotient_at (row 5 10 10 ∷ row 11 20 20 ∷ []) 1 0 20 (negsuc 0)
    -- document 02, request 1: rows 1, 2 and 3 of the four are limited by row 4 at 200, row 4 by itself at 260
    ∷ limited_by the_four 1 4 200
    ∷ limited_by the_four 2 4 200
    ∷ limited_by the_four 3 4 200
    ∷ limited_by the_four 4 4 260
    -- 1/1/1 alone is limited by itself at 1
    ∷ limited_by (row 1 1 1 ∷ []) 1 1 1
    -- 1/3/3 is limited by 2/5/5 at 3, the first of two points with the quotient 0
    ∷ limited_by (row 1 3 3 ∷ row 2 5 5 ∷ []) 1 2 3
    -- refused: rows 0 and 5 of the four with 10, row 0; row 1 of sheet 8, where row 2 misses, with 8, and a row 3 of it with 10 before that
    ∷ why_refused the_four 0 10 0
    ∷ why_refused the_four 5 10 0
    ∷ why_refused (row 5 10 10 ∷ row 6 14 14 ∷ []) 1 8 2
    ∷ why_refused (row 5 10 10 ∷ row 6 14 14 ∷ []) 3 10 0
    -- document 02, request 2: the four rows on two cores with three columns more, also quoted throughout; the text that is written is itself not read
    ∷ text_accepted 2 text_of_the_four columns_of_the_four
    ∷ text_accepted 2 quoted_text_of_the_four columns_of_the_four
    ∷ text_refused 2 columns_of_the_four 9 1
    -- sheet 4, whatever is lent: 6 before 7
    ∷ text_refused 2 text_of_sheet_four 6 5
    -- their tables' bytes, whether a core takes every row or not
    ∷ text_tabled 2 text_of_the_four (table_bytes (record { cores = 2; rows = the_four }))
    ∷ text_tabled 2 text_of_sheet_four (table_bytes (record { cores = 2; rows = row 6 10 10 ∷ row 4 10 10 ∷ row 4 10 10 ∷ row 3 10 10 ∷ row 3 10 10 ∷ [] }))
    -- leading zeros, and a number that is 5 modulo 2^32
    ∷ text_accepted 1 (under_header (ascii "00000000000000000005,5,5\n")) (ascii "wcet,deadline,period,core,response,allowance\r\n5,5,5,1,5,0\r\n")
    ∷ text_refused 1 (under_header (ascii "4294967301,5,5\n")) 4 1
    ∷ text_refused 1 (under_header (ascii "4294967301,4294967301,4294967301\n")) 4 1
    -- no rows, no bytes, a second line end at the end
    ∷ text_refused 1 (under_header []) 3 0
    ∷ text_refused 1 [] 9 1
    ∷ text_refused 2 (text_of_the_four ++ ascii "\r\n") 9 6
    -- 9 before any other: before a 25th row, and before a broken limit
    ∷ text_refused 1 (under_header (repeated 24 (ascii "1,100,100\n") ++ ascii "1,100")) 9 26
    ∷ text_refused 1 (under_header (ascii "2,1,1\n1,1\n")) 9 3
    -- then 2, and a 25th row before its limits
    ∷ text_refused 0 (under_header (ascii "2,1,1\n")) 2 0
    ∷ text_refused 1 (under_header (repeated 24 (ascii "1,100,100\n") ++ ascii "2,1,1\n")) 3 0
    -- a CR that is not before an LF, a line end or a quote in a quoted field, an empty field
    ∷ text_refused 1 (under_header (ascii "1,2,2\r")) 9 2
    ∷ text_refused 1 (under_header (ascii "1,2,2\n1,\"2\n\",2\n")) 9 3
    ∷ text_refused 1 (under_header (ascii "1,\"2\"\"\",2\n")) 9 2
    ∷ text_refused 1 (under_header (ascii "1,,2\n")) 9 2
    ∷ []
