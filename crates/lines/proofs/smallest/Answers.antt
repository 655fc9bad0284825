-- `lines::smallest` meets its contract, by the library's lemmas on `min` of a slice.
use mathlib.Core.Path.{◌≡◌, sym, ap, ◌∙◌}
use Prim.Native.Nat.{ℕ, min}
use Rattle.std.specs.Option.{option_map, unwrap_or}
use Rattle.std.specs.List.{reduce}
use Rattle.std.proofs.lemmas.Iterator.Adapters.{option_map_id}
use Rattle.std.proofs.lemmas.Iterator.{YieldsList-from_slice}
use Rattle.std.proofs.lemmas.Iterator.Consumers.{YieldsList-from_copied, min_from_yields_List}
use Rattle.lines.proofs.smallest.Goals as goal

pub returns : goal.returns
returns c =
    let numbers = c.args.numbers.now in
    let least : option_map (λ (x : ℕ). x) c.min.result ≡ reduce min numbers =
    min_from_yields_List c.copied.result c.min.result c.min.ensures.ran (YieldsList-from_copied (YieldsList-from_slice numbers (cc))) in
    c.unwrap_or.ensures ∙ ap (λ found. unwrap_or found 0) (sym (option_map_id c.min.result) ∙ least)
