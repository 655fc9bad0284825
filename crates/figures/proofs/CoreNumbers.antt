-- What is found for rows that all meet: one number for each row, and point allowances that are allowances.
use mathlib.Core.Path.{◌≡◌, refl, subst}
use Prim.Native.Nat.{ℕ, ◌<◌}
use mathlib.Core.List.{List}
use lib.IntN.{pos}
use lib.ListN.{length, get_or, take}
use Rattle.std.proofs.Common.{Result, Ok, Err}
use Rattle.theory.specs.Row.{Row}
use Rattle.theory.specs.Response.{AllMeet}
use Rattle.theory.specs.Allowance.{IsAllowance}
use Rattle.theory.specs.Points.{IsPointAllowance}
use Rattle.theory.specs.Lists.{ForEach}
use Rattle.theory.proofs.Verdict.{within_steady}
use Rattle.theory.proofs.Allowance.{allowance_of_points}
use Rattle.rows.specs.Values.{rows_in}
use Rattle.rows.specs.declared.Rows.{Rows}
use Rattle.climbs.specs.declared.ranked_set.RankedSet.{RankedSet}
use Rattle.climbs.proofs.InLists.{in_rows, front_for_each}
use Rattle.responses.specs.declared.timed.Timed.{Timed}
use Rattle.responses.specs.declared.timed.Miss.{Miss}
use Rattle.responses.specs.InTime.{RespondsInTime}
use Rattle.responses.specs.Verdict.{IsVerdict}
use Rattle.responses.proofs.Meeting.{timed_meet}

-- the front of an array that has a number for each row of a set, which are these rows
pub numbers_for_each :
    (Right : List Row → ℕ → ℕ → Type 0) (rows same : Rows) (n : ℕ) (numbers : List ℕ)
    → same ≡ rows
    → n ≡ length rows.c.now
    → length numbers ≡ 24
    → ((k : ℕ) → k < length same.c.now → Right (rows_in same) k (get_or numbers k 0))
    → ForEach (rows_in rows) (Right (rows_in rows)) (take n numbers)
numbers_for_each Right rows same n numbers e many long right =
    rw many
    (subst (λ (rs : Rows). ForEach (rows_in rs) (Right (rows_in rs)) (take (length rs.c.now) numbers)) e
    (front_for_each same.c.now same.d.now same.t.now same.shaped (Right (rows_in same)) numbers long right))

-- where all rows meet, the verdict is that they are on time
pub meeting_on_time : (set : RankedSet) → AllMeet (rows_in set.rows) → (said : Result Timed Miss) → IsVerdict set said
    → (timed : Timed) × (said ≡ Ok timed) × ((k : ℕ) → k < length set.rows.c.now → RespondsInTime (rows_in set.rows) timed.response k)
meeting_on_time set all (Ok timed) said = let rows = set.rows in (timed, refl, λ k inside. said.1 k (in_rows rows.c.now rows.d.now rows.t.now rows.shaped inside))
meeting_on_time set all (Err miss) said = absurd (said.misses (all miss.row said.in_set))

-- rows that are on time meet, so their point allowances are their allowances
pub allowances_of_points :
    (timed : Timed) (allowed : List ℕ)
    → ((i : ℕ) → i < length timed.set.now.rows.c.now → IsPointAllowance (rows_in timed.set.now.rows) i (pos (get_or allowed i 0)))
    → (i : ℕ)
    → i < length timed.set.now.rows.c.now
    → IsAllowance (rows_in timed.set.now.rows) i (get_or allowed i 0)
allowances_of_points timed allowed are i inside =
    let rows = timed.set.now.rows in
    allowance_of_points (rows_in rows) (within_steady (rows_in rows) rows.within) i (in_rows rows.c.now rows.d.now rows.t.now rows.shaped inside) (timed_meet timed) (get_or allowed i 0) (are i inside)
