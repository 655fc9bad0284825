-- `place_of`: a member of the order stands at a place, so the search does not end without one.
use Rattle.std.proofs.Common.{◌≡◌, ℕ, ◌<◌, Bool, false, arith, rules, tests}
use Rattle.std.specs.List.{position, position_or_len}
use Rattle.std.proofs.lemmas.Grind.{common_steps}
use Rattle.std.proofs.lemmas.Iterator.{YieldsList-from_slice}
use Rattle.std.proofs.lemmas.Iterator.Search.{position_from_yields_List}
use Rattle.std.proofs.lemmas.List.Sums.{fails_before_first}
use lib.Dec.{eqb}
use lib.ListN.{get_or}
use Rattle.theory.proofs.At.{stands_in}
use Rattle.reasons.proofs.place_of.Goals as goal

pub unwrap-requires : goal.unwrap-requires
unwrap-requires c =
    let order = c.args.order.now in
    let test : ℕ → Bool = λ k. eqb k c.args.i in
    let stands = stands_in c.requires in
    let found : c.position.result ≡ position test order = position_from_yields_List test _ _ _ c.position.ensures.ran (YieldsList-from_slice order cc) (λ x b q k. search (rules, tests)) in
    let before : stands.place < position_or_len test order → test (get_or order stands.place 0) ≡ false = fails_before_first test order stands.place 0 in
    grind (arith, common_steps, before, found, stands.inside, stands.there)
