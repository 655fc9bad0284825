-- `write_at` meets its contract: with no place it has nothing to write, and else the rows at the places are the core's.
use mathlib.Core.Path.{sym}
use Rattle.std.proofs.Common.{rules}
use Rattle.climbs.proofs.Gathered.{rows_held, many_held}
use Rattle.figures.proofs.Written.{figured_same, none_figured}
use Rattle.figures.proofs.write_at.Goals as goal

pub returns-then-is_empty : goal.returns-then-is_empty
returns-then-is_empty c = none_figured _ _ _ _ (search rules)

pub write_core-requires : goal.write_core-requires
write_core-requires c = record {
  all_meet = rw (rows_held c.args.rows.now c.rows_at-on_core.ensures c.rows.result c.rows.ensures.c c.rows.ensures.d c.rows.ensures.t) c.requires.all_meet;
  places_len = (
    sym (many_held c.args.rows.now c.rows_at-on_core.ensures c.rows.result c.rows.ensures.c),
    rw c.requires.responses_len.0 c.requires.places_len_bound.1,
    rw c.requires.responses_len.1 c.requires.places_len_bound.1,
  );
}

pub returns : goal.returns
returns c = figured_same (rows_held c.args.rows.now c.rows_at-on_core.ensures c.rows.result c.rows.ensures.c c.rows.ensures.d c.rows.ensures.t) c.write_core.ensures
