-- The promises of the set service and the point service: each determines the answer and both lists, and the two agree on every input, refusals included.
use mathlib.Core.Path.{◌≡◌, refl, sym, ◌∙◌, ap, subst}
use Prim.Native.Nat.{ℕ, suc, ◌≤◌, ◌<◌}
use mathlib.Core.Bool.{Bool, true, false}
use mathlib.Core.Logic.{◌↔◌, ◌⊎◌, inl, inr, ⊎_elim}
use mathlib.Core.List.{List}
use native.Mathlib.Omega.{arith}
use native.Mathlib.Nat.{le_antisymm}
use borrow.Author.Tests.{leb-true, leb-false}
use lib.Dec.{leb}
use lib.IntN.{pos, nat_abs}
use lib.ListN.{length, get_or}
use lib.Seq.{ext_get_or}
use Rattle.theory.specs.Returned.{Returned, returned}
use Rattle.theory.specs.Row.{Row, AllWithin, FirstBroken}
use Rattle.theory.specs.Response.{AllMeet, FirstMiss, IsResponse}
use Rattle.theory.specs.Allowance.{IsAllowance}
use Rattle.theory.specs.Points.{IsPointAllowance}
use Rattle.theory.specs.Lists.{rows_of, ForEach, filled, Answered, rows_out_of_range, row_breaks_limits, output_too_short, row_misses, accepted, SetAnswered, PointAnswered}
use Rattle.theory.proofs.Tests.{equal_or_not}
use Rattle.theory.proofs.Response.{response_unique}
use Rattle.theory.proofs.Rank.{above_connected}
use Rattle.theory.proofs.Bound.{point_allowance_unique}
use Rattle.theory.proofs.Verdict.{within_steady}
use Rattle.theory.proofs.Allowance.{allowance_unique, allowance_of_points, points_of_allowance}

-- of the rows that miss, one is the highest in rank
pub first_miss_unique : (rows : List Row) (h k : ℕ) → FirstMiss rows h → FirstMiss rows k → h ≡ k
first_miss_unique rows h k p q =
    ⊎_elim (λ e. e)
    (λ d. absurd (⊎_elim (λ t. p.misses (q.above_meet h p.in_set t)) (λ t. q.misses (p.above_meet k q.in_set t)) (above_connected rows h k d)))
    (equal_or_not h k)

-- of the rows that break the limits, one is the first
pub first_broken_unique : (rows : List Row) (h k : ℕ) → FirstBroken rows h → FirstBroken rows k → h ≡ k
first_broken_unique rows h k p q = le_antisymm (not_later h k p q) (not_later k h q p)
  where
    not_later : (h k : ℕ) → FirstBroken rows h → FirstBroken rows k → h ≤ k
    not_later h k p q = go (leb h k) refl
      where
        go : (b : Bool) → leb h k ≡ b → h ≤ k
        go true e = leb-true h k e
        go false e = absurd (q.breaks (p.earlier_keep k (leb-false h k e)))

-- not both: a row breaks the limits, and all keep them
pub clash : {X : Type 0} (rows : List Row) (k : ℕ) → FirstBroken rows k → AllWithin rows → X
clash rows k broken within = absurd (broken.breaks (within k broken.in_table))

-- not both: a row misses, and all meet
pub late : {X : Type 0} (rows : List Row) (k : ℕ) → FirstMiss rows k → AllMeet rows → X
late rows k miss all = absurd (miss.misses (all k miss.in_set))

-- numbers that are determined for each row make one list
pub for_each_unique : (rows : List Row) (Right : ℕ → ℕ → Type 0)
    → ((k a b : ℕ) → k < length rows → Right k a → Right k b → a ≡ b)
    → (xs ys : List ℕ)
    → ForEach rows Right xs
    → ForEach rows Right ys
    → xs ≡ ys
for_each_unique rows Right unique xs ys p q =
    ext_get_or 0 xs ys (p.one_each ∙ sym q.one_each)
    (λ k h.
    let inside : k < length rows = subst (λ (n : ℕ). k < n) p.one_each h in
    unique k (get_or xs k 0) (get_or ys k 0) inside (p.right k inside) (q.right k inside))

-- two results of a list service that are the same
pub record Same (answer other : Returned) (responses others allowances other-allowances : List ℕ) : Type 0 where
  pub same_answer : answer ≡ other
  pub same_responses : responses ≡ others
  pub same_allowances : allowances ≡ other-allowances

refused_alike : (answer other : Returned) (rs ls : List ℕ) → answer ≡ other → Same answer other rs rs ls ls
refused_alike answer other rs ls e = record { same_answer = e; same_responses = refl; same_allowances = refl }

module _ (Allowance : List Row → ℕ → ℕ → Type 0)
    (allowance-determined : (rows : List Row) (i a b : ℕ) → Allowance rows i a → Allowance rows i b → a ≡ b)
    (cs ds ts responses allowances : List ℕ) where
  abbrev Result : Returned → List ℕ → List ℕ → Type 0
  Result = Answered Allowance cs ds ts responses allowances

  abbrev rows : List Row
  rows = rows_of cs ds ts

  short : {X : Type 0} → (length responses < length cs) ⊎ (length allowances < length cs) → length cs ≤ length responses → length cs ≤ length allowances → X
  short (inl h) r a = absurd (omega arith)
  short (inr h) r a = absurd (omega arith)

  both_accepted : (Rs Rs' As As' : List ℕ)
      → ForEach rows (IsResponse rows) Rs
      → ForEach rows (IsResponse rows) Rs'
      → ForEach rows (Allowance rows) As
      → ForEach rows (Allowance rows) As'
      → Same (returned 0 0) (returned 0 0) (filled Rs responses) (filled Rs' responses) (filled As allowances) (filled As' allowances)
  both_accepted Rs Rs' As As' r r' a a' = record {
    same_answer = refl;
    same_responses = ap (λ (xs : List ℕ). filled xs responses) (for_each_unique rows (IsResponse rows) (λ k x y h. response_unique rows k x y) Rs Rs' r r');
    same_allowances = ap (λ (xs : List ℕ). filled xs allowances) (for_each_unique rows (Allowance rows) (λ k x y h. allowance-determined rows k x y) As As' a a');
  }

  -- A PROMISE DETERMINES THE RESULT
  pub answered_unique : {a b : Returned} {rs ss ls ms : List ℕ} → Result a rs ls → Result b ss ms → Same a b rs ss ls ms
  answered_unique (rows_out_of_range n) (rows_out_of_range n') = refused_alike (returned 3 0) (returned 3 0) responses allowances refl
  answered_unique (rows_out_of_range n) (row_breaks_limits k' s' f') = absurd (n s')
  answered_unique (rows_out_of_range n) (output_too_short s' w' o') = absurd (n s')
  answered_unique (rows_out_of_range n) (row_misses k' s' w' r' a' m') = absurd (n s')
  answered_unique (rows_out_of_range n) (accepted Rs' As' s' w' r' a' all' is-R' is-A') = absurd (n s')
  answered_unique (row_breaks_limits k s f) (rows_out_of_range n') = absurd (n' s)
  answered_unique (row_breaks_limits k s f) (row_breaks_limits k' s' f') = refused_alike (returned 4 (suc k)) (returned 4 (suc k')) responses allowances (ap (λ (x : ℕ). returned 4 (suc x)) (first_broken_unique rows k k' f f'))
  answered_unique (row_breaks_limits k s f) (output_too_short s' w' o') = clash rows k f w'
  answered_unique (row_breaks_limits k s f) (row_misses k' s' w' r' a' m') = clash rows k f w'
  answered_unique (row_breaks_limits k s f) (accepted Rs' As' s' w' r' a' all' is-R' is-A') = clash rows k f w'
  answered_unique (output_too_short s w o) (rows_out_of_range n') = absurd (n' s)
  answered_unique (output_too_short s w o) (row_breaks_limits k' s' f') = clash rows k' f' w
  answered_unique (output_too_short s w o) (output_too_short s' w' o') = refused_alike (returned 7 0) (returned 7 0) responses allowances refl
  answered_unique (output_too_short s w o) (row_misses k' s' w' r' a' m') = short o r' a'
  answered_unique (output_too_short s w o) (accepted Rs' As' s' w' r' a' all' is-R' is-A') = short o r' a'
  answered_unique (row_misses k s w r a m) (rows_out_of_range n') = absurd (n' s)
  answered_unique (row_misses k s w r a m) (row_breaks_limits k' s' f') = clash rows k' f' w
  answered_unique (row_misses k s w r a m) (output_too_short s' w' o') = short o' r a
  answered_unique (row_misses k s w r a m) (row_misses k' s' w' r' a' m') = refused_alike (returned 8 (suc k)) (returned 8 (suc k')) responses allowances (ap (λ (x : ℕ). returned 8 (suc x)) (first_miss_unique rows k k' m m'))
  answered_unique (row_misses k s w r a m) (accepted Rs' As' s' w' r' a' all' is-R' is-A') = late rows k m all'
  answered_unique (accepted Rs As s w r a all is-R is-A) (rows_out_of_range n') = absurd (n' s)
  answered_unique (accepted Rs As s w r a all is-R is-A) (row_breaks_limits k' s' f') = clash rows k' f' w
  answered_unique (accepted Rs As s w r a all is-R is-A) (output_too_short s' w' o') = short o' r a
  answered_unique (accepted Rs As s w r a all is-R is-A) (row_misses k' s' w' r' a' m') = late rows k' m' all
  answered_unique (accepted Rs As s w r a all is-R is-A) (accepted Rs' As' s' w' r' a' all' is-R' is-A') = both_accepted Rs Rs' As As' is-R is-R' is-A is-A'

-- the set service's promise determines its result
pub set_answered_unique : (cs ds ts responses allowances : List ℕ) {a b : Returned} {rs ss ls ms : List ℕ}
    → SetAnswered cs ds ts responses allowances a rs ls
    → SetAnswered cs ds ts responses allowances b ss ms
    → Same a b rs ss ls ms
set_answered_unique = answered_unique IsAllowance allowance_unique

-- so does the point service's
pub point_answered_unique : (cs ds ts responses allowances : List ℕ) {a b : Returned} {rs ss ls ms : List ℕ}
    → PointAnswered cs ds ts responses allowances a rs ls
    → PointAnswered cs ds ts responses allowances b ss ms
    → Same a b rs ss ls ms
point_answered_unique =
    answered_unique (λ rows i a. IsPointAllowance rows i (pos a)) (λ rows i a b p q. ap nat_abs (point_allowance_unique rows i (pos a) (pos b) p q))

-- what holds of every allowance of one service's meaning holds of the other's, so the services answer alike
module _ (First Second : List Row → ℕ → ℕ → Type 0)
    (carries : (rows : List Row) → AllWithin rows → AllMeet rows → (i a : ℕ) → i < length rows → First rows i a → Second rows i a)
    (cs ds ts responses allowances : List ℕ) where
  answers_carry : {a : Returned} {rs ls : List ℕ} → Answered First cs ds ts responses allowances a rs ls → Answered Second cs ds ts responses allowances a rs ls
  answers_carry (rows_out_of_range n) = rows_out_of_range n
  answers_carry (row_breaks_limits k s f) = row_breaks_limits k s f
  answers_carry (output_too_short s w o) = output_too_short s w o
  answers_carry (row_misses k s w r a m) = row_misses k s w r a m
  answers_carry (accepted Rs As s w r a all is-R is-A) =
      accepted Rs As s w r a all is-R
      (record { one_each = is-A.one_each; right = λ k h. carries (rows_of cs ds ts) w all k (get_or As k 0) h (is-A.right k h) })

-- DEMAND 3 ON THE SERVICES: what one of the two promises the other does
pub services_agree : (cs ds ts responses allowances : List ℕ) {a : Returned} {rs ls : List ℕ}
    → SetAnswered cs ds ts responses allowances a rs ls ↔ PointAnswered cs ds ts responses allowances a rs ls
services_agree cs ds ts responses allowances = (
  answers_carry IsAllowance (λ rows i a. IsPointAllowance rows i (pos a)) (λ rows w all i a h. points_of_allowance rows (within_steady rows w) i h all a) cs ds ts responses allowances,
  answers_carry (λ rows i a. IsPointAllowance rows i (pos a)) IsAllowance (λ rows w all i a h. allowance_of_points rows (within_steady rows w) i h all a) cs ds ts responses allowances,
)
