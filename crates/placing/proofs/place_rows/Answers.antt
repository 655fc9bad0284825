use mathlib.Core.Path.{◌≡◌, sym, ap, subst, ◌∙◌}
use Prim.Native.Nat.{ℕ, suc, ◌+◌, ◌-◌}
use native.Mathlib.Omega.{arith}
use native.Mathlib.Numerals.{add-one}
use lib.ListN.{length, get_or, set, replicate}
use mathlib.Core.List.{List}
use Rattle.std.proofs.Common.{rules}
use Rattle.std.specs.Prelude.{Option, Some, None, Err}
use Rattle.std.specs.Option.{ok_or}
use Rattle.placement.specs.Core.{Table}
use Rattle.choices.specs.declared.Candidate.{Candidate}
use Rattle.choices.specs.Among.{candidate_of, BestAmong, IsChoiceAmong}
use Rattle.answers.specs.declared.Refusal.TheVariants.{NoCoreTakes}
use Rattle.placement.specs.Choice.{allowance_fit}
use Rattle.cores.specs.Cores.{HoldsCores}
use Rattle.choices.proofs.Among.{chosen_among_all, none_among_all}
use Rattle.placing.specs.Placed.{table_in, placed, stopped}
use Rattle.placing.proofs.SoFar.{so_far_begins, so_far_ends, so_far_more, so_far_stops}
use Rattle.placing.proofs.Turn.{many_rows, turn_of, held_without}
use Rattle.placing.proofs.place_rows.Goals as goal

pub loop-j-init : goal.loop-j-init
loop-j-init c =
    so_far_begins allowance_fit (table_in c.args.cores c.args.rows.now) c.args.core.now c.args.held.now.rows c.args.held.now.counts
    (c.requires.core_value.0 ∙ ap (λ (n : ℕ). replicate n 0) (sym (many_rows c.args.rows.now))) c.requires.core_value.1

pub overflow_cast-refusal : goal.overflow_cast-refusal
overflow_cast-refusal c =
    let turn = turn_of c.args.cores c.args.rows.now c.taking_order-order.result c.taking_order-order.ensures.result_value c.loop-j.invariant c.loop-j-test.true in
    omega (arith, turn.in_lists, c.args.rows.now.shaped.no_25th)

pub overflow_add-refusal : goal.overflow_add-refusal
overflow_add-refusal c =
    let turn = turn_of c.args.cores c.args.rows.now c.taking_order-order.result c.taking_order-order.ensures.result_value c.loop-j.invariant c.loop-j-test.true in
    omega (arith, turn.in_lists, c.args.rows.now.shaped.no_25th)

pub choose-requires-clause-cores_bound : goal.choose-requires-clause-cores_bound
choose-requires-clause-cores_bound c =
    let turn = turn_of c.args.cores c.args.rows.now c.taking_order-order.result c.taking_order-order.ensures.result_value c.loop-j.invariant c.loop-j-test.true in
    (c.requires.cores_bound, turn.in_lists)

pub choose-requires-clause-held_without : goal.choose-requires-clause-held_without
choose-requires-clause-held_without c =
    let turn = turn_of c.args.cores c.args.rows.now c.taking_order-order.result c.taking_order-order.ensures.result_value c.loop-j.invariant c.loop-j-test.true in
    held_without turn

-- what is chosen, where it is there
chosen : {table : Table} {assignment : List ℕ} {i : ℕ} (choice : Option Candidate) (candidate : Candidate)
    → choice ≡ Some candidate
    → IsChoiceAmong allowance_fit table assignment i table.cores choice
    → BestAmong allowance_fit table assignment i table.cores (candidate_of candidate)
chosen {table} {assignment} {i} choice candidate is = subst (IsChoiceAmong allowance_fit table assignment i table.cores) is

pub returns-in_err-candidate : goal.returns-in_err-candidate
returns-in_err-candidate c =
    let turn = turn_of c.args.cores c.args.rows.now c.taking_order-order.result c.taking_order-order.ensures.result_value c.loop-j.invariant c.loop-j-test.true in
    let table = table_in c.args.cores c.args.rows.now in
    let row = get_or c.taking_order-order.result c.loop-j.j 0 in
    let none : c.choose.result ≡ None = c.in_err-candidate.ensures.ok_part in
    let refusal : c.in_err-candidate.field-0.0 ≡ NoCoreTakes (row + 1) = let e = c.in_err-candidate.ensures.value ∙ ap (λ choice. ok_or choice (NoCoreTakes (row + 1))) none in cc e in
    let same : c.from_residual.result ≡ Err c.in_err-candidate.field-0.0 = search rules in
    let no-core = none_among_all allowance_fit table c.loop-j.core row (subst (IsChoiceAmong allowance_fit table c.loop-j.core row c.args.cores) none (c.choose.ensures (held_without turn))) in
    rw (same, refusal, add-one row) (stopped row (so_far_stops allowance_fit table c.loop-j.invariant row turn.is_next turn.more_rows no-core))

pub overflow_cast-core : goal.overflow_cast-core
overflow_cast-core c =
    let turn = turn_of c.args.cores c.args.rows.now c.taking_order-order.result c.taking_order-order.ensures.result_value c.loop-j.invariant c.loop-j-test.true in
    let candidate = c.in_ok-candidate.candidate in
    let best = chosen c.choose.result candidate c.in_ok-candidate.ensures.ok_part (c.choose.ensures (held_without turn)) in
    omega (arith, best.is_candidate.on_table, c.requires.cores_bound)

pub offset_bounds-core-i : goal.offset_bounds-core-i
offset_bounds-core-i c =
    let turn = turn_of c.args.cores c.args.rows.now c.taking_order-order.result c.taking_order-order.ensures.result_value c.loop-j.invariant c.loop-j-test.true in
    omega (arith, turn.in_lists, c.args.rows.now.shaped.no_25th)

pub bounds-core-i : goal.bounds-core-i
bounds-core-i c =
    let turn = turn_of c.args.cores c.args.rows.now c.taking_order-order.result c.taking_order-order.ensures.result_value c.loop-j.invariant c.loop-j-test.true in
    omega (arith, turn.in_lists, turn.one_each)

pub overflow_sub-candidate : goal.overflow_sub-candidate
overflow_sub-candidate c =
    let turn = turn_of c.args.cores c.args.rows.now c.taking_order-order.result c.taking_order-order.ensures.result_value c.loop-j.invariant c.loop-j-test.true in
    let candidate = c.in_ok-candidate.candidate in
    let best = chosen c.choose.result candidate c.in_ok-candidate.ensures.ok_part (c.choose.ensures (held_without turn)) in
    omega (arith, best.is_candidate.from_one)

pub put-requires-clause-m_bound : goal.put-requires-clause-m_bound
put-requires-clause-m_bound c =
    let turn = turn_of c.args.cores c.args.rows.now c.taking_order-order.result c.taking_order-order.ensures.result_value c.loop-j.invariant c.loop-j-test.true in
    let candidate = c.in_ok-candidate.candidate in
    let best = chosen c.choose.result candidate c.in_ok-candidate.ensures.ok_part (c.choose.ensures (held_without turn)) in
    omega (arith, best.is_candidate.from_one, best.is_candidate.on_table, c.requires.cores_bound)

pub put-requires-clause-held_without : goal.put-requires-clause-held_without
put-requires-clause-held_without c =
    let turn = turn_of c.args.cores c.args.rows.now c.taking_order-order.result c.taking_order-order.ensures.result_value c.loop-j.invariant c.loop-j-test.true in
    (length c.args.rows.now.c.now, turn.in_lists, c.args.rows.now.shaped.no_25th, held_without turn)

pub loop-j-preserved : goal.loop-j-preserved
loop-j-preserved c =
    let turn = turn_of c.args.cores c.args.rows.now c.taking_order-order.result c.taking_order-order.ensures.result_value c.loop-j.invariant c.loop-j-test.true in
    let candidate = c.in_ok-candidate.candidate in
    let best = chosen c.choose.result candidate c.in_ok-candidate.ensures.ok_part (c.choose.ensures (held_without turn)) in
    let row = get_or c.taking_order-order.result c.loop-j.j 0 in
    let same : suc (candidate.core - 1) ≡ candidate.core = omega (arith, best.is_candidate.from_one) in
    so_far_more allowance_fit (table_in c.args.cores c.args.rows.now) c.loop-j.invariant row turn.is_next turn.more_rows candidate.core _ _
    (chosen_among_all allowance_fit (table_in c.args.cores c.args.rows.now) c.loop-j.core row candidate best)
    (subst (λ (m : ℕ). HoldsCores (set c.loop-j.core row m) c.put.new.self.rows c.put.new.self.counts) same (c.put.ensures (length c.args.rows.now.c.now) turn.in_lists (held_without turn)))

pub returns : goal.returns
returns c =
    placed (so_far_ends allowance_fit (table_in c.args.cores c.args.rows.now) c.loop-j.invariant (omega (arith, many_rows c.args.rows.now))) c.loop-j.invariant.holds
