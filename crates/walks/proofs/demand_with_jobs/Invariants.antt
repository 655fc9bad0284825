-- `walks::demand_with_jobs` meets its contract. The loop's invariant: the sum is what the first h rows ask for, and the jobs of those are at the front of the list.
use mathlib.Core.Path.{◌≡◌}
use Prim.Native.Nat.{ℕ, ◌<◌}
use lib.ListN.{length, get_or}
use Rattle.theory.specs.Response.{ceil}
use Rattle.demands.proofs.Asked.{AskedUpTo}
use Rattle.walks.proofs.demand_with_jobs.Given as goal

abbrev pub invariant-loop-h : goal.invariant-loop-h
invariant-loop-h l =
    AskedUpTo l.row.c.now l.row.t.now l.time l.h l.sum × (length l.jobs ≡ length l.initial.jobs) × ((k : ℕ) → k < l.h → get_or l.jobs k 0 ≡ ceil l.time (get_or l.row.t.now k 0))
