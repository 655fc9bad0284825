-- The report that is written is the table's.
use mathlib.Core.Path.{◌≡◌, sym, ap, ◌∙◌}
use Prim.Native.Nat.{ℕ, ◌+◌, ◌*◌, ◌≤◌, ◌<◌}
use mathlib.Core.List.{List, [], ◌∷◌, ◌++◌, flat_map}
use native.Mathlib.Omega.{arith}
use lib.ListN.{length, get_or, take}
use lib.Seq.{take_at}
use Rattle.std.specs.Prelude.{Ok}
use Rattle.theory.specs.Returned.{returned}
use Rattle.theory.specs.Lists.{filled}
use Rattle.rows.specs.declared.FigureLists.{FigureLists}
use Rattle.rows.specs.Values.{figures_in}
use Rattle.placement.specs.Core.{Table as TableOf}
use Rattle.placement.specs.Choice.{allowance_fit}
use Rattle.placement.specs.Figures.{Figures, figures_from, Certified}
use Rattle.placement.proofs.Certified.{certified_in_time}
use Rattle.placement.proofs.FiguresFrom.{figures_from_at}
use Rattle.records.specs.Reading.{read_table, table}
use Rattle.records.specs.Report.{figures_record, count_record, table_records, table_bytes, report_bytes}
use Rattle.records.proofs.Number.{AllBelow}
use Rattle.reading.specs.declared.table.Table.{Table}
use Rattle.reading.specs.Read.{held_table}
use Rattle.rows.proofs.Fronts.{many_at_fronts}
use Rattle.certificates.specs.declared.certificate.Certificate.{Certificate}
use Rattle.certificates.specs.Held.{IsHeld}
use Rattle.certifying.proofs.Given.{given_certified, given_many}
use Rattle.service.specs.Table.{TableAnswered}
use Rattle.records.proofs.Reading.{read_from_own_bytes}
use Rattle.records.proofs.Lengths.{table_records_length, table_bytes_length}

-- the bytes of a table begin with its kind 1 and kind 2 records
pub records_in_front : (bytes : List ℕ) (t : TableOf) → AllBelow 256 bytes → read_table bytes ≡ table t → take (2 + 13 * length t.rows) bytes ≡ table_records t
unfolding table_bytes
records_in_front bytes t below is_table_lem =
    ap (take (2 + 13 * length t.rows)) (read_from_own_bytes bytes t below is_table_lem)
    ∙ take_at (table_records t) (count_record t.rows) (2 + 13 * length t.rows) (table_records_length t)

-- a table of n rows was read from 4 + 13n bytes
pub table_length : (bytes : List ℕ) (t : TableOf) (n : ℕ) → AllBelow 256 bytes → read_table bytes ≡ table t → length t.rows ≡ n → length bytes ≡ 4 + 13 * n
table_length bytes t n below is_table_lem many = ap length (read_from_own_bytes bytes t below is_table_lem) ∙ omega (arith, table_bytes_length t)

-- with a kind 3 for each row and kind 4 behind them, they are the report
pub report_of_records : (bytes : List ℕ) (t : TableOf) (all : List Figures) (n : ℕ) → AllBelow 256 bytes → read_table bytes ≡ table t → length t.rows ≡ n
    → take (2 + 13 * n) bytes ++ (flat_map figures_record all ++ (4 ∷ n ∷ [])) ≡ report_bytes t all
unfolding report_bytes
report_of_records bytes t all n below is_table_lem many =
    rw (sym many) (ap (λ (records : List ℕ). records ++ (flat_map figures_record all ++ (4 ∷ length t.rows ∷ []))) (records_in_front bytes t below is_table_lem))

-- a core's number is a byte
pub core_is_byte :
    (t : TableOf) (cores responses allowances : List ℕ) → t.cores ≤ 8 → length cores ≡ length t.rows → length responses ≡ length cores → length allowances ≡ length cores
    → Certified allowance_fit t (figures_from cores responses allowances)
    → (i : ℕ)
    → i < length cores
    → get_or cores i 0 < 256
core_is_byte t cores responses allowances few one_each r a certified i h =
    let on = (certified_in_time allowance_fit t (figures_from cores responses allowances) certified i (omega arith)).on_table in
    omega (arith, on, ap (λ (f : Figures). f.core) (figures_from_at cores responses allowances r a i))

-- the figures of a table's rows that its certificate gives
module _
    (of_rows : Table)
    (certificate : Certificate)
    (figures : FigureLists)
    (held : IsHeld (held_table of_rows) (Ok certificate))
    (core : figures.core.now ≡ take certificate.n certificate.core)
    (response : figures.response.now ≡ take certificate.n certificate.response)
    (allowance : figures.allowance.now ≡ take certificate.n certificate.allowance) where
  certified : Certified allowance_fit (held_table of_rows) (figures_in figures)
  certified = given_certified of_rows certificate figures held core response allowance

  many_given : length figures.core.now ≡ of_rows.held.n
  many_given = given_many of_rows certificate figures held core response allowance

  -- the core's number is a byte
  pub given_bytes : (i : ℕ) → i < length figures.core.now → get_or figures.core.now i 0 < 256
  given_bytes =
      core_is_byte (held_table of_rows) figures.core.now figures.response.now figures.allowance.now of_rows.no_9th_core
      (many_given ∙ sym (many_at_fronts of_rows.held)) figures.as_many_responses figures.as_many_allowances certified

  -- put behind the table's records, with kind 4 behind them, they are the report
  pub report_put : (bytes report after : List ℕ) → AllBelow 256 bytes → read_table bytes ≡ table (held_table of_rows) → 4 + 23 * of_rows.held.n ≤ length report
      → after ≡ filled (take (2 + 13 * of_rows.held.n) bytes ++ (flat_map figures_record (figures_in figures) ++ (4 ∷ length figures.core.now ∷ []))) report
      → TableAnswered allowance_fit bytes report (returned 0 0) after
  report_put bytes report after below reads long put =
      let many = many_at_fronts of_rows.held in
      let all = figures_in figures in
      rw (put, many_given, report_of_records bytes (held_table of_rows) all of_rows.held.n below reads many)
      (TableAnswered.accepted (held_table of_rows) all reads (omega (arith, many)) certified)
