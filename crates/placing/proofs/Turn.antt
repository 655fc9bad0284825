-- A turn of the placement: the row that is taken next, where the rows in order up to it are placed.
use mathlib.Core.Path.{◌≡◌, sym, ap, subst, ◌∙◌}
use Prim.Native.Nat.{ℕ, ◌<◌}
use mathlib.Core.List.{List}
use native.Mathlib.Omega.{arith}
use lib.ListN.{length, get_or, take}
use lib.Seq.{get_or-take}
use Rattle.theory.proofs.RowsOf.{rows_of_length}
use Rattle.placement.specs.Core.{core_of}
use Rattle.placement.specs.Order.{taken}
use Rattle.placement.specs.Choice.{allowance_fit}
use Rattle.rows.specs.declared.Rows.{Rows}
use Rattle.rows.specs.Values.{rows_in}
use Rattle.orders.specs.Taken.{taken_by}
use Rattle.orders.proofs.TakenOf.{taken_of_lists}
use Rattle.cores.specs.Cores.{HoldsCores, HeldWithout}
use Rattle.placing.specs.Placed.{table_in}
use Rattle.placing.proofs.SoFar.{PlacedSoFar, so_far_one_each, next_in_table, next_on_none}

-- row i is the next to be taken after j rows; it is on no core yet
pub record Turn (rows : Rows) (core : List ℕ) (lists : List (List ℕ)) (counts : List ℕ) (j i : ℕ) : Type 0 where
  pub is_next : i ≡ get_or (taken (rows_in rows)) j 0
  pub more_rows : j < length (rows_in rows)
  pub in_lists : i < length rows.c.now
  pub one_each : length core ≡ length rows.c.now
  pub on_none : core_of core i ≡ 0
  pub holds : HoldsCores core lists counts

-- rows are as many as their lists have entries
pub many_rows : (rows : Rows) → length (rows_in rows) ≡ length rows.c.now
many_rows rows = rows_of_length rows.c.now rows.d.now rows.t.now rows.shaped.as_many_deadlines rows.shaped.as_many_periods

-- the entry of the order at a place is the row of that turn
pub turn_of :
    (cores : ℕ)
    (rows : Rows)
    (order : List ℕ)
    {core counts : List ℕ}
    {lists : List (List ℕ)}
    {j : ℕ}
    → take (length rows.c.now) order ≡ taken_by rows.c.now rows.t.now
    → PlacedSoFar allowance_fit (table_in cores rows) j core lists counts
    → j < length rows.c.now
    → Turn rows core lists counts j (get_or order j 0)
turn_of cores rows order {core} {counts} {lists} {j} in_order so_far inside =
    record {
      is_next = is-next;
      more_rows = more;
      in_lists = subst (λ (n : ℕ). get_or order j 0 < n) many (next_in_table allowance_fit (table_in cores rows) so_far _ is-next more);
      one_each = so_far_one_each allowance_fit (table_in cores rows) so_far ∙ many;
      on_none = next_on_none allowance_fit (table_in cores rows) so_far _ is-next more;
      holds = so_far.holds;
    }
  where
    many : length (rows_in rows) ≡ length rows.c.now
    many = many_rows rows

    all : take (length rows.c.now) order ≡ taken (rows_in rows)
    all = in_order ∙ taken_of_lists rows.c.now rows.d.now rows.t.now rows.shaped.as_many_deadlines rows.shaped.as_many_periods

    is-next : get_or order j 0 ≡ get_or (taken (rows_in rows)) j 0
    is-next = sym (get_or-take (length rows.c.now) order j 0 inside) ∙ ap (λ (xs : List ℕ). get_or xs j 0) all

    more : j < length (rows_in rows)
    more = omega (arith, inside, many)

module _ {rows : Rows} {core : List ℕ} {lists : List (List ℕ)} {counts : List ℕ} {j i : ℕ} (turn : Turn rows core lists counts j i) where
  -- the cores hold the assignment, under which the row is on none
  abbrev pub held_without : HeldWithout (length rows.c.now) i lists counts
  held_without = record { assignment = core; one_each = turn.one_each; on_none = turn.on_none; holds = turn.holds }
