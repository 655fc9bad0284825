-- Utilisation, in whole numbers: what equation (1) of document 001 speaks of. It follows from the rest and is no check.
use Rattle.std.specs.Prelude.{◌≡◌, ℕ, ◌*◌, ◌/◌, ◌%◌, ◌≤◌, ◌<◌, List, length}
use Rattle.theory.specs.Row.{Row, row_at}
use Rattle.theory.specs.Rank.{places}
use Rattle.theory.specs.Gather.{sum}

-- a common multiple of the periods
abbrev pub CommonMultiple : List Row → ℕ → Type 0
CommonMultiple rows P = (k : ℕ) → k < length rows → P % (row_at rows k).T ≡ 0

-- over a common multiple P of the periods, the sum of C × P / T: the utilisation times P
unfoldable pub work : List Row → ℕ → ℕ
work rows P = sum (λ k. (row_at rows k).C * (P / (row_at rows k).T)) (places rows)

-- utilisation at most one
abbrev pub AtMostOne : List Row → Type 0
AtMostOne rows = (P : ℕ) → CommonMultiple rows P → work rows P ≤ P
