-- A climb of a limited number of rounds, between two of them: it may start from where it is, and each round taken has brought it up.
use mathlib.Core.Path.{◌≡◌}
use Prim.Native.Nat.{ℕ, ◌+◌, ◌≤◌}
use native.Mathlib.Omega.{arith}
use Rattle.theory.specs.Climb.{Start}
use Rattle.theory.proofs.Climb.{start_again}
use Rattle.theory.proofs.Rounds.{rises_on}

-- where the climb is after so many rounds
pub record InRounds (next : ℕ → ℕ) (start rounds at : ℕ) : Type 0 where
  pub starts : Start next at
  pub taken : start + rounds ≤ at

-- a round that does not repeat the value takes it up
pub rounds_go_on : {next : ℕ → ℕ} {start rounds at : ℕ} → InRounds next start rounds at
    → ((s t : ℕ) → s ≤ t → next s ≤ next t)
    → (next at ≡ at → ⊥)
    → InRounds next start (rounds + 1) (next at)
rounds_go_on {next} {at = at} so_far mono other = record {
  starts = start_again next mono at so_far.starts;
  taken = omega (arith, so_far.taken, rises_on so_far.starts other);
}
