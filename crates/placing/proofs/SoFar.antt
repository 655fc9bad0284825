-- A placement under way: the first j of the rows in the order taken are placed, and the cores hold that.
use mathlib.Core.Path.{◌≡◌, sym, subst, ◌∙◌}
use Prim.Native.Nat.{ℕ, suc, ◌+◌, ◌≤◌, ◌<◌}
use mathlib.Core.List.{List, [], ◌∷◌}
use native.Mathlib.Omega.{arith}
use native.Mathlib.Numerals.{add-one}
use lib.ListN.{length, get_or, drop, set, replicate, drop_of_length-le}
use lib.Seq.{drop-cons}
use Rattle.theory.specs.Rank.{places}
use Rattle.theory.proofs.Member.{length_sort, length_up_from}
use Rattle.placement.specs.Core.{Table, core_of}
use Rattle.placement.specs.Order.{taken, taken_before}
use Rattle.placement.specs.Choice.{Rule, IsChosen, NoCandidate}
use Rattle.placement.specs.Placement.{Moment, start, step, Stopped}
use Rattle.placement.proofs.Moment.{Underway, underway}
use Rattle.cores.specs.Cores.{HoldsCores}

pub record PlacedSoFar (rule : Rule) (table : Table) (j : ℕ) (assignment : List ℕ) (rows : List (List ℕ)) (counts : List ℕ) : Type 0 where
  pub moment : Moment rule table assignment (drop j (taken table.rows))
  pub holds : HoldsCores assignment rows counts

-- as many rows are taken as the table has
taken_length : (table : Table) → length (taken table.rows) ≡ length table.rows
unfolding taken
taken_length table = length_sort (taken_before table.rows) (places table.rows) ∙ length_up_from 0 (length table.rows)

module _ (rule : Rule) (table : Table) where
  -- at first none is placed
  pub so_far_begins :
      (assignment : List ℕ) (rows : List (List ℕ)) (counts : List ℕ)
      → assignment ≡ replicate (length table.rows) 0
      → HoldsCores assignment rows counts
      → PlacedSoFar rule table 0 assignment rows counts
  so_far_begins assignment rows counts none holds =
      record { moment = subst (λ (a : List ℕ). Moment rule table a (taken table.rows)) (sym none) start; holds = holds }

  module _ {j : ℕ} {assignment : List ℕ} {rows : List (List ℕ)} {counts : List ℕ} (so_far : PlacedSoFar rule table j assignment rows counts) where
    -- each row has an entry in the assignment
    pub so_far_one_each : length assignment ≡ length table.rows
    so_far_one_each = (underway rule table so_far.moment).one_each

    -- behind the last row all are placed
    pub so_far_ends : length table.rows ≤ j → Moment rule table assignment []
    so_far_ends h =
        subst (Moment rule table assignment) (drop_of_length-le (taken table.rows) (subst (λ (n : ℕ). n ≤ j) (sym (taken_length table)) h)) so_far.moment

    -- row i is the next to be taken
    module _ (i : ℕ) (is-next : i ≡ get_or (taken table.rows) j 0) (more : j < length table.rows) where
      moment_here : Moment rule table assignment (i ∷ drop (suc j) (taken table.rows))
      moment_here =
          subst (λ (x : ℕ). Moment rule table assignment (x ∷ drop (suc j) (taken table.rows))) (sym is-next)
          (subst (Moment rule table assignment) (drop-cons (taken table.rows) j 0 (omega (arith, taken_length table))) so_far.moment)

      here : Underway table assignment (i ∷ drop (suc j) (taken table.rows))
      here = underway rule table moment_here

      pub next_in_table : i < length table.rows
      next_in_table = here.left_in_table.0

      pub next_on_none : core_of assignment i ≡ 0
      next_on_none = here.left_on_none.0

      -- with row i on the core that is chosen, one row more is placed
      pub so_far_more :
          (m : ℕ) (rows' : List (List ℕ)) (counts' : List ℕ)
          → IsChosen rule table assignment i m
          → HoldsCores (set assignment i m) rows' counts'
          → PlacedSoFar rule table (j + 1) (set assignment i m) rows' counts'
      so_far_more m rows' counts' chosen holds' =
          record {
            moment = subst (λ (n : ℕ). Moment rule table (set assignment i m) (drop n (taken table.rows))) (sym (add-one j)) (step moment_here chosen);
            holds = holds';
          }

      -- where no core takes it, the placement stops there
      pub so_far_stops : NoCandidate table assignment i → Stopped rule table i
      so_far_stops none = record { assignment = assignment; rest = drop (suc j) (taken table.rows); moment = moment_here; no_candidate = none }
