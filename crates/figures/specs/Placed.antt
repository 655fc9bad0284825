-- Placed rows, as the code holds them, and their figures in the two lists for the table.
use Rattle.std.specs.Prelude.{◌≡◌, ℕ, ◌≤◌, ◌<◌, List, length, get_or}
use Rattle.theory.specs.Row.{Row}
use Rattle.theory.specs.Response.{AllMeet, IsResponse}
use Rattle.theory.specs.Allowance.{IsAllowance}
use Rattle.placement.specs.Core.{core_rows, core_of, place_on_core}
use Rattle.cores.specs.Cores.{HoldsCores}

-- the cores hold an assignment under which every row is on a core from 1 to 8 and every core's rows meet
pub record PlacedRows (rows : List Row) (held : List (List ℕ)) (counts : List ℕ) : Type 0 where
  pub assignment : List ℕ
  pub one_each : length assignment ≡ length rows
  pub on_some_core : (i : ℕ) → i < length rows → (1 ≤ core_of assignment i) × (core_of assignment i ≤ 8)
  pub cores_meet : (m : ℕ) → 1 ≤ m → AllMeet (core_rows rows assignment m)
  pub holds : HoldsCores assignment held counts

-- row i's response time and allowance among its core's rows stand at its place
pub record HasFigures (rows : List Row) (assignment responses allowances : List ℕ) (i : ℕ) : Type 0 where
  pub its_response : IsResponse (core_rows rows assignment (core_of assignment i)) (place_on_core assignment i) (get_or responses i 0)
  pub its_allowance : IsAllowance (core_rows rows assignment (core_of assignment i)) (place_on_core assignment i) (get_or allowances i 0)
