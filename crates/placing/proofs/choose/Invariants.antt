-- `choose` meets its contract. The loop's invariant: the choice is among the first m cores.
use lib.ListN.{length}
use Rattle.placement.specs.Choice.{allowance_fit}
use Rattle.cores.specs.Cores.{HeldWithout}
use Rattle.choices.specs.Among.{IsChoiceAmong}
use Rattle.placing.specs.Placed.{table_in}
use Rattle.placing.proofs.choose.Given as goal

abbrev pub invariant-loop-m : goal.invariant-loop-m
invariant-loop-m l =
    (without : HeldWithout (length l.rows.c.now) l.i l.held.rows l.held.counts) → IsChoiceAmong allowance_fit (table_in l.cores l.rows) without.assignment l.i l.m l.choice
