-- `fits::fit_by_climbs` meets its contract. The loop's invariant: the first j rows by rank are judged.
use Rattle.climbs.specs.Placed.{AreByRank}
use Rattle.fits.proofs.Judging.{Judging}
use Rattle.fits.proofs.fit_by_climbs.Given as goal

abbrev pub invariant-loop-j : goal.invariant-loop-j
invariant-loop-j l = (stand : AreByRank l.set.rows l.by_rank) → Judging stand l.j l.allowance l.period l.before
