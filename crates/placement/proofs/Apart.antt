-- Tables that tell the placement apart from versions of it that document 01 names: "Errors seen in this trade", and "Versions to be shut out".
use mathlib.Core.Path.{◌≡◌, refl}
use Prim.Native.Nat.{ℕ}
use mathlib.Core.List.{List, [], ◌∷◌}
use lib.ListN.{length, replicate}
use Rattle.theory.specs.Row.{Row}
use Rattle.theory.specs.Gather.{up_from, keep, sum, every, insert, sort, best}
use Rattle.theory.specs.Rank.{rivals, levels}
use Rattle.theory.specs.Response.{ceil, demand, load, climb, outcome, on_time}
use Rattle.theory.specs.Points.{last_multiple, walk, points, slack, floor_div, times, quotient, bound, point_allowance, core_allowance}
use Rattle.placement.specs.Core.{core_rows}
use Rattle.placement.specs.Order.{taken}
use Rattle.placement.specs.Choice.{allowance_fit}
use Rattle.placement.specs.Computed.{takes, candidate_at, takers, chosen_of, step_of, Run, placed, stopped_at, run}

-- C/D/T
abbrev row : ℕ → ℕ → ℕ → Row
row c d t = record { C = c; D = d; T = t }

-- the run for a table, by Allowance-Fit from the start
pub run_for : ℕ → List Row → Run
unfolding run step_of takers takes candidate_at chosen_of taken core_rows core_allowance up_from keep sum every insert sort rivals levels ceil demand load climb outcome on_time last_multiple walk points slack floor_div times quotient best bound point_allowance
run_for cores rows = run allowance_fit (record { cores = cores; rows = rows }) (replicate (length rows) 0) (taken rows)

-- the four of document 01, "Sheets to reproduce"
abbrev the_four_lem : List Row
the_four_lem = row 10 60 70 ∷ row 15 85 100 ∷ row 30 190 210 ∷ row 45 260 320 ∷ []

-- of cores with one core allowance, the lower in number keeps the row
pub lower_core_keeps : (best allowance_fit (record { core = 1; allowance = 47 }) (record { core = 2; allowance = 47 } ∷ [])).core ≡ 1
unfolding best
lower_core_keeps = refl

-- in whole per cent 33/100/100 and 1/3/3 tie, though 1/3 is larger: the second is taken first
pub a_third_before_33_per_cent : taken (row 33 100 100 ∷ row 1 3 3 ∷ []) ≡ 1 ∷ 0 ∷ []
unfolding taken up_from insert sort
a_third_before_33_per_cent = refl

-- sheet 3: the order taken is rows 2, 1, 3, 4, where 1 and 3 tie
pub the_four_in_order : taken the_four_lem ≡ 1 ∷ 0 ∷ 2 ∷ 3 ∷ []
unfolding taken up_from insert sort
the_four_in_order = refl

-- sheet 3: not all rows after the first go to core 1
pub the_four_placed : run_for 2 the_four_lem ≡ placed (2 ∷ 1 ∷ 1 ∷ 1 ∷ [])
unfolding run_for
the_four_placed = refl

-- sheet 4: the run stops at row 5, which no core takes
pub sheet_4_stopped : run_for 2 (row 6 10 10 ∷ row 4 10 10 ∷ row 4 10 10 ∷ row 3 10 10 ∷ row 3 10 10 ∷ []) ≡ stopped_at 4
unfolding run_for
sheet_4_stopped = refl
