use mathlib.Core.Path.{◌≡◌, sym, ◌∙◌, subst}
use Prim.Native.Nat.{◌<◌}
use native.Mathlib.Omega.{arith}
use native.Mathlib.Numerals.{add-one}
use borrow.Author.Rules.{rules}
use lib.ListN.{length}
use Rattle.rows.specs.Values.{rows_in}
use Rattle.rows.specs.declared.Rows.{Rows}
use Rattle.theory.proofs.RowsOf.{rows_of_length}
use Rattle.figures.proofs.Written.{FiguredUpTo}
use Rattle.figures.proofs.Placed.{none_yet, placed_meet, placed_no_more, placed_in_table, placed_figured}
use Rattle.figures.proofs.write_figures.Goals as goal

-- there are as many rows as numbers in each list
as_many : (rows : Rows) → length (rows_in rows) ≡ length rows.c.now
as_many rows = rows_of_length rows.c.now rows.d.now rows.t.now rows.shaped.as_many_deadlines rows.shaped.as_many_periods

pub loop-m-init : goal.loop-m-init
loop-m-init c = (c.requires.responses_len.0, c.requires.responses_len.1, λ placed. none_yet placed _ _)

pub write_at-requires : goal.write_at-requires
write_at-requires c =
    let rows = c.args.rows.now in
    let m = c.loop-m.m in
    let below : m < 8 = omega arith in record {
      places_len_bound = rw c.places.ensures (
        omega (arith, as_many rows, rows.shaped.no_25th, placed_no_more c.requires.placed_rows m below),
        rw (as_many rows) at (placed_in_table c.requires.placed_rows m below),
      );
      all_meet = rw c.places.ensures (placed_meet c.requires.placed_rows m below);
      responses_len = (c.loop-m.invariant.0, c.loop-m.invariant.1);
    }

pub loop-m-preserved : goal.loop-m-preserved
loop-m-preserved c =
    let loop = c.loop-m in
    let rows = as_many c.args.rows.now in (
      search rules,
      search rules,
      λ placed. subst (FiguredUpTo _ placed.assignment _ _) (sym (add-one loop.m))
          (placed_figured placed loop.m (omega arith) _ _ _ _ (loop.invariant.0 ∙ sym rows) (loop.invariant.1 ∙ sym rows) (loop.invariant.2 placed) (rw c.places.ensures at c.write_at.ensures)),
    )

pub returns : goal.returns
returns c placed i in_table =
    let in_rows : i < length (rows_in c.args.rows.now) = omega (arith, as_many c.args.rows.now) in
    c.loop-m.invariant.2 placed i in_rows (omega (arith, (placed.on_some_core i in_rows).1))
