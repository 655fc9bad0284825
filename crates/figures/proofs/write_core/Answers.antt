-- `write_core` meets its contract: rows that all meet are on time, so their response times are there, and then their allowances.
use mathlib.Core.Path.{◌≡◌, ap, ◌∙◌}
use Rattle.theory.specs.Response.{IsResponse}
use Rattle.theory.specs.Allowance.{IsAllowance}
use Rattle.climbs.specs.declared.ranked_set.RankedSet.{RankedSet}
use Rattle.figures.proofs.CoreNumbers.{numbers_for_each}
use Rattle.figures.proofs.write_core.Goals as goal

pub returns : goal.returns
returns c =
    let rows = c.args.rows.now in
    let timed = c.unwrap-timed.result in
    let same : timed.set.now.rows ≡ rows = ap (λ (set : RankedSet). set.rows) (rw c.unwrap-timed.ensures at c.responses_of.ensures).0 ∙ c.ranked-set.ensures in
    record {
      core_responses = _;
      core_allowances = _;
      are_responses = numbers_for_each IsResponse rows timed.set.now.rows _ timed.response same c.requires.places_len.0 timed.long (λ k h. (timed.in_time k h).is_response);
      are_allowances =
          numbers_for_each IsAllowance rows timed.set.now.rows _ c.allowances_of-core_allowances.result same c.requires.places_len.0 c.allowances_of-core_allowances.ensures.long
          c.allowances_of-core_allowances.ensures.allowances;
      responses_written = c.scatter.ensures;
      allowances_written = c.scatter-2.ensures;
    }
