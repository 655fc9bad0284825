-- The figures of a table's rows that its certificate gives.
use mathlib.Core.Path.{◌≡◌, sym, ◌∙◌}
use lib.ListN.{length, take}
use Rattle.std.specs.Prelude.{Ok}
use Rattle.placement.specs.Choice.{allowance_fit}
use Rattle.placement.specs.Figures.{Certified}
use Rattle.placement.proofs.FiguresFrom.{figures_from_length}
use Rattle.rows.specs.declared.FigureLists.{FigureLists}
use Rattle.rows.specs.Values.{figures_in}
use Rattle.rows.proofs.Fronts.{many_at_fronts}
use Rattle.reading.specs.declared.table.Table.{Table}
use Rattle.reading.specs.Read.{held_table}
use Rattle.certificates.specs.declared.certificate.Certificate.{Certificate}
use Rattle.certificates.specs.Held.{IsHeld}

module _
    (of_rows : Table)
    (certificate : Certificate)
    (figures : FigureLists)
    (held : IsHeld (held_table of_rows) (Ok certificate))
    (core : figures.core.now ≡ take certificate.n certificate.core)
    (response : figures.response.now ≡ take certificate.n certificate.response)
    (allowance : figures.allowance.now ≡ take certificate.n certificate.allowance) where
  pub given_certified : Certified allowance_fit (held_table of_rows) (figures_in figures)
  given_certified = rw (core, response, allowance) held

  -- one for each row
  pub given_many : length figures.core.now ≡ of_rows.held.n
  given_many =
      sym (figures_from_length figures.core.now figures.response.now figures.allowance.now figures.as_many_responses figures.as_many_allowances)
      ∙ given_certified.are_figures.one_each
      ∙ many_at_fronts of_rows.held
