-- The search for the row that limits the one at place p over the rows by rank, from that row down: what holds after the rows from p to before place j, how it goes on
-- and ends.
use Rattle.std.proofs.Common.{Option, Some, None, IsSome}
use mathlib.Core.Path.{◌≡◌, refl, sym, subst}
use Prim.Native.Nat.{ℕ, suc, ◌+◌, ◌≤◌, ◌<◌}
use mathlib.Core.Logic.{◌⊎◌, inl, inr, ⊎_elim}
use mathlib.Core.List.{List}
use native.Mathlib.Omega.{arith}
use native.Mathlib.Nat.{le_trans}
use lib.ListN.{length, get_or, take}
use Rattle.theory.proofs.Tests.{equal_or_not, order_cases}
use Rattle.raises.proofs.Raised.{raise_mono}
use Rattle.trials.specs.Trial.{counted_by}
use Rattle.trials.proofs.Search.{counts_itself_once, counts_by_period}
use Rattle.reasons.specs.declared.Reach.{Reach}
use Rattle.reasons.specs.declared.Limit.{Limit}
use Rattle.reasons.specs.Reason.{LeastWithRoom, ReachedAt, Reached, load_with_raised, points_at, PointWith, PointsByRank, IsMost, LimitedAt}

module _ (cs ds ts : List ℕ) (p : ℕ) where
  -- of the rows from place p to before place j, one limits the row at place p: each has room for the smallest raise, those before it for more, and it for no more
  pub record Found (smallest row point j : ℕ) : Type 0 where
    pub from : p ≤ row
    pub before : row < j
    pub each_has_room : (q : ℕ) → p ≤ q → q < j → PointWith cs ds ts p q smallest
    pub above_have_more : (q : ℕ) → p ≤ q → q < row → PointWith cs ds ts p q (suc smallest)
    pub no_more : PointWith cs ds ts p row (suc smallest) → ⊥
    pub least_point : LeastWithRoom (load_with_raised cs ts p row smallest) (points_at ds ts row) point

  -- none does yet: each has room for more than is in question
  pub record NotYet (smallest j : ℕ) : Type 0 where
    pub most : ℕ
    pub is_most : IsMost cs ds ts p most
    pub above_it : smallest ≡ suc most
    pub have_more : (q : ℕ) → p ≤ q → q < j → PointWith cs ds ts p q smallest

  -- what a limiting row so far, or none, says of them
  abbrev FoundSoFar : ℕ → Option Limit → ℕ → Type 0
  FoundSoFar smallest (Some limit) j = Found smallest limit.row limit.point j
  FoundSoFar smallest None j = NotYet smallest j

  -- after the rows from place p to before place j
  pub record Searched (smallest : ℕ) (limit : Option Limit) (j : ℕ) : Type 0 where
    pub from : p ≤ j
    pub places : j ≤ length cs
    pub by_deadline : smallest ≤ get_or ds p 0
    pub found : FoundSoFar smallest limit j

  -- there is a limiting row
  pub record LimitFound (found : Option Limit) : Type 0 where
    pub limit : Limit
    pub is_found : found ≡ Some limit
    pub limits : LimitedAt cs ds ts p limit.row limit.point

  -- a point with room for more has room for less
  room_for_less : (j a b : ℕ) → a ≤ b → PointWith cs ds ts p j b → PointWith cs ds ts p j a
  room_for_less j a b h q = record {
    point = q.point;
    among_points = q.among_points;
    room = le_trans (raise_mono (get_or cs j 0) (take j cs) (take j ts) (counted_by ts p j) a b q.point h) q.room;
  }

  module _ (rows : PointsByRank cs ds ts) (inside : p < length cs) where
    -- no raise in question passes the period for which a row counts it
    pub within_period : (smallest : ℕ) → smallest ≤ get_or ds p 0 → (j : ℕ) → (smallest ≤ counted_by ts p j) × (1 ≤ counted_by ts p j) × (counted_by ts p j ≤ 1_000_000)
    within_period smallest by_deadline j = go (equal_or_not j p)
      where
        go : (j ≡ p) ⊎ (j ≡ p → ⊥) → (smallest ≤ counted_by ts p j) × (1 ≤ counted_by ts p j) × (counted_by ts p j ≤ 1_000_000)
        go (inl e) = rw (e, counts_itself_once ts p) (omega (arith, rows.by_period p inside, rows.small.by_million p inside), omega arith, omega arith)
        go (inr d) = rw (counts_by_period ts p j d) (omega (arith, rows.by_period p inside), rows.small.period_positive p inside, rows.small.by_million p inside)

    -- each row has a point, so something is reached
    pub something_reached : (smallest j : ℕ) → j < length cs → (reach : Option Reach) → Reached (load_with_raised cs ts p j) (points_at ds ts j) smallest reach → IsSome reach
    something_reached smallest j more (Some reach) reached = refl
    something_reached smallest j more None none = let q = rows.have_points p j more in absurd (none q.point q.among_points q.room)

    module _ {smallest : ℕ} {limit : Option Limit} {j : ℕ} (so_far : Searched smallest limit j) (more : j < length cs) {raise point : ℕ} (reached : ReachedAt (load_with_raised cs ts p j) (points_at ds ts j) smallest raise point) where
      -- a point has room for what is reached
      at_reach : PointWith cs ds ts p j raise
      at_reach = record { point = point; among_points = reached.among_points; room = reached.room }

      -- the rows before have room for the smallest raise so far
      earlier : (q : ℕ) → p ≤ q → q < j → PointWith cs ds ts p q smallest
      earlier q h l = go limit so_far.found
        where
          go : (o : Option Limit) → FoundSoFar smallest o j → PointWith cs ds ts p q smallest
          go (Some limit) f = f.each_has_room q h l
          go None n = n.have_more q h l

      -- the row has no room for it: it limits
      pub search_lowers : raise < smallest → Searched raise (Some (record { row = j; point = point })) (j + 1)
      search_lowers below = record {
        from = omega (arith, so_far.from);
        places = omega arith;
        by_deadline = omega (arith, so_far.by_deadline);
        found = record {
          from = so_far.from;
          before = omega arith;
          each_has_room = λ q h l. ⊎_elim
              (λ e. subst (λ (x : ℕ). PointWith cs ds ts p x raise) (sym e) at_reach)
              (λ d. room_for_less q raise smallest (omega arith) (earlier q h (omega arith))) (equal_or_not q j);
          above_have_more = λ q h l. room_for_less q (suc raise) smallest (omega arith) (earlier q h l);
          no_more = λ q. reached.no_more below q.point q.among_points q.room;
          least_point = record { among_points = reached.among_points; room = reached.room; least = reached.least below };
        };
      }

      -- it has room for it: what was found stays
      pub search_stays : smallest ≤ raise → Searched smallest limit (j + 1)
      search_stays further = record {
        from = omega (arith, so_far.from);
        places = omega arith;
        by_deadline = so_far.by_deadline;
        found = go limit so_far.found;
      }
        where
          has_room : PointWith cs ds ts p j smallest
          has_room = room_for_less j smallest raise further at_reach

          one_more : ((q : ℕ) → p ≤ q → q < j → PointWith cs ds ts p q smallest) → (q : ℕ) → p ≤ q → q < j + 1 → PointWith cs ds ts p q smallest
          one_more before q h l = ⊎_elim (λ e. subst (λ (x : ℕ). PointWith cs ds ts p x smallest) (sym e) has_room) (λ d. before q h (omega arith)) (equal_or_not q j)

          go : (o : Option Limit) → FoundSoFar smallest o j → FoundSoFar smallest o (j + 1)
          go (Some limit) f = record {
            from = f.from;
            before = omega (arith, f.before);
            each_has_room = one_more f.each_has_room;
            above_have_more = f.above_have_more;
            no_more = f.no_more;
            least_point = f.least_point;
          }
          go None n = record { most = n.most; is_most = n.is_most; above_it = n.above_it; have_more = one_more n.have_more }

    module _ {smallest : ℕ} {limit : Option Limit} {j : ℕ} (done : Searched smallest limit j) where
      -- where the rows from place j on have room for the smallest raise too, the limiting row is found
      limit_is_found : (NotYet smallest j → ⊥) → ((q : ℕ) → j ≤ q → q < length cs → PointWith cs ds ts p q smallest) → LimitFound limit
      limit_is_found not_first rest = go limit done.found
        where
          go : (o : Option Limit) → FoundSoFar smallest o j → LimitFound o
          go (Some limit) f = record {
            limit = limit;
            is_found = refl;
            limits = record {
              allowance = smallest;
              from = f.from;
              inside = omega (arith, f.before, done.places);
              each_has_room = λ q h l. ⊎_elim (λ (b : q < j). f.each_has_room q h b) (⊎_elim (λ (e : q ≡ j). rest q (omega arith) l) (λ (b : j < q). rest q (omega arith) l)) (order_cases q j);
              above_have_more = f.above_have_more;
              no_more = f.no_more;
              least_point = f.least_point;
            };
          }
          go None n = absurd (not_first n)

      -- after the last row
      pub search_ends : length cs ≤ j → LimitFound limit
      search_ends past =
          limit_is_found (λ n. n.is_most.no_larger (λ q h l. subst (PointWith cs ds ts p q) n.above_it (n.have_more q h (omega arith)))) (λ q h l. absurd (omega arith))

      -- and where the smallest raise is nothing, for which every row has room
      pub search_left : smallest ≡ 0 → LimitFound limit
      search_left none =
          limit_is_found (λ n. omega (arith, n.above_it))
          (λ q h l. subst (PointWith cs ds ts p q) (sym none) (rows.have_points p q l))
