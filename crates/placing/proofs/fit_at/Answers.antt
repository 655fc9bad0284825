-- `fit_at` meets its contract: the rows that are gathered are those at the places.
use mathlib.Core.Path.{subst}
use mathlib.Core.List.{List}
use Rattle.theory.specs.Row.{Row}
use Rattle.fits.specs.Fit.{IsFit}
use Rattle.climbs.proofs.Gathered.{rows_held}
use Rattle.placing.proofs.fit_at.Goals as goal

pub returns : goal.returns
returns c =
    let fronts = c.rows.ensures in
    subst (λ (rows : List Row). IsFit rows c.fit_of.result) (rows_held c.args.rows.now c.rows_at.ensures c.rows.result fronts.c fronts.d fronts.t) c.fit_of.ensures
