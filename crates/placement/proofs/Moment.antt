-- What holds at every moment of a placement, by whatever rule: every core's rows all meet, and every row is on a core of the table or still to be taken.
use mathlib.Core.Path.{◌≡◌, sym, ◌∙◌, subst}
use Prim.Native.Nat.{ℕ, ◌≤◌, ◌<◌}
use native.Mathlib.Omega.{arith}
use mathlib.Core.Logic.{◌⊎◌, inl, inr, ⊎_elim}
use mathlib.Core.List.Memᴰ
use mathlib.Core.List.{List, [], ◌∷◌, Memᴰ}
use lib.ListN.{length, set, replicate, length-set, length-replicate, get_or-replicate}
use lib.Seq.{get_or-set_same, get_or-set_other}
use Rattle.theory.specs.Gather.{All}
use Rattle.theory.specs.Response.{AllMeet}
use Rattle.theory.proofs.Tests.{equal_or_not}
use Rattle.theory.proofs.Each.{all_map, all_both}
use Rattle.theory.proofs.Order.{Ordered}
use Rattle.placement.specs.Core.{Table, core_rows, core_of}
use Rattle.placement.specs.Order.{taken}
use Rattle.placement.specs.Choice.{Rule, joined, IsChosen}
use Rattle.placement.specs.Placement.{Moment, start, step}
use Rattle.placement.proofs.Core.{core_rows_other, core_rows_none}
use Rattle.placement.proofs.Order.{taken_places, taken_every, taken_once}

-- row i is on a core of the table
pub record OnSomeCore (table : Table) (assignment : List ℕ) (i : ℕ) : Type 0 where
  pub from_one : 1 ≤ core_of assignment i
  pub on_table : core_of assignment i ≤ table.cores

-- what holds at a moment
pub record Underway (table : Table) (assignment rest : List ℕ) : Type 0 where
  pub one_each : length assignment ≡ length table.rows
  pub left_in_table : All (λ i. i < length table.rows) rest
  pub left_once : Ordered (λ i j. i ≡ j → ⊥) rest
  pub left_on_none : All (λ i. core_of assignment i ≡ 0) rest
  pub placed_or_left : (i : ℕ) → i < length table.rows → OnSomeCore table assignment i ⊎ Memᴰ i rest
  pub cores_meet : (m : ℕ) → 1 ≤ m → AllMeet (core_rows table.rows assignment m)

-- it holds at the start
pub underway_start : (table : Table) → Underway table (replicate (length table.rows) 0) (taken table.rows)
underway_start table =
    record {
      one_each = length-replicate (length table.rows) 0;
      left_in_table = taken_places table.rows;
      left_once = taken_once table.rows;
      left_on_none = all_map (taken table.rows) (λ i h. get_or-replicate (length table.rows) i 0 0 h) (taken_places table.rows);
      placed_or_left = λ i h. inr (taken_every table.rows i h);
      cores_meet = λ m h. rw (core_rows_none table.rows (length table.rows) m h) (λ k g. absurd (omega arith));
    }

-- One step.
module _ (rule : Rule) (table : Table) (assignment : List ℕ) (i : ℕ) (rest : List ℕ) (m : ℕ)
    (was : Underway table assignment (i ∷ rest)) (chosen : IsChosen rule table assignment i m) where
  -- row i comes to its core
  step_places : core_of (set assignment i m) i ≡ m
  step_places = get_or-set_same assignment i m 0 (omega (arith, was.left_in_table.0, was.one_each))

  -- the other rows stay
  step_leaves : (j : ℕ) → (i ≡ j → ⊥) → core_of (set assignment i m) j ≡ core_of assignment j
  step_leaves j d = get_or-set_other assignment i j m 0 (λ e. d (sym e))

  -- row i is on a core of the table
  here : OnSomeCore table (set assignment i m) i
  here =
      record {
        from_one = omega (arith, step_places, chosen.its_core, chosen.is_candidate.from_one);
        on_table = omega (arith, step_places, chosen.its_core, chosen.is_candidate.on_table);
      }

  -- every row is on a core of the table or still to be taken
  step_placed_or_left : (j : ℕ) → j < length table.rows → OnSomeCore table (set assignment i m) j ⊎ Memᴰ j rest
  step_placed_or_left j h = go (equal_or_not i j) (was.placed_or_left j h)
    where
      go : (i ≡ j) ⊎ (i ≡ j → ⊥) → OnSomeCore table assignment j ⊎ Memᴰ j (i ∷ rest) → OnSomeCore table (set assignment i m) j ⊎ Memᴰ j rest
      go (inl e) p = inl (subst (OnSomeCore table (set assignment i m)) e here)
      go (inr d) (inl p) = inl (record { from_one = rw (step_leaves j d) p.from_one; on_table = rw (step_leaves j d) p.on_table })
      go (inr d) (inr n) = ⊎_elim (λ e. absurd (d (sym e))) inr (Memᴰ.cases_cons n)

  -- every core's rows all meet
  step_cores_meet : (n : ℕ) → 1 ≤ n → AllMeet (core_rows table.rows (set assignment i m) n)
  step_cores_meet n h = go (equal_or_not m n)
    where
      go : (m ≡ n) ⊎ (m ≡ n → ⊥) → AllMeet (core_rows table.rows (set assignment i m) n)
      go (inl e) = subst (λ c. AllMeet (core_rows table.rows (set assignment i m) c)) e (subst (λ c. AllMeet (joined table assignment i c)) chosen.its_core chosen.is_candidate.all_meet)
      go (inr d) = rw (core_rows_other table.rows assignment i m n (λ e. omega (arith, was.left_on_none.0)) d) (was.cores_meet n h)

  -- what held at the moment before holds after the step
  pub underway_step : Underway table (set assignment i m) rest
  underway_step =
      record {
        one_each = length-set assignment i m ∙ was.one_each;
        left_in_table = was.left_in_table.1;
        left_once = was.left_once.1;
        left_on_none = all_map rest (λ j h. step_leaves j h.0 ∙ h.1) (all_both (λ j. i ≡ j → ⊥) (λ j. core_of assignment j ≡ 0) rest was.left_once.0 was.left_on_none.1);
        placed_or_left = step_placed_or_left;
        cores_meet = step_cores_meet;
      }

-- it holds at every moment
pub underway : (rule : Rule) (table : Table) {assignment rest : List ℕ} → Moment rule table assignment rest → Underway table assignment rest
underway rule table start = underway_start table
underway rule table (step {assignment = assignment} {i = i} {rest = rest} {m = m} moment chosen) = underway_step rule table assignment i rest m (underway rule table moment) chosen

-- at every moment every core's rows all meet
pub cores_meet_always :
    (rule : Rule) (table : Table) (assignment rest : List ℕ)
    → Moment rule table assignment rest
    → (m : ℕ)
    → 1 ≤ m
    → AllMeet (core_rows table.rows assignment m)
cores_meet_always rule table assignment rest moment = (underway rule table moment).cores_meet

-- with no row left to take, every row is on a core of the table
pub all_placed :
    (rule : Rule) (table : Table) (assignment : List ℕ)
    → Moment rule table assignment []
    → (i : ℕ)
    → i < length table.rows
    → OnSomeCore table assignment i
all_placed rule table assignment moment i h = ⊎_elim (λ p. p) (λ n. absurd (Memᴰ.not-nil n)) ((underway rule table moment).placed_or_left i h)
