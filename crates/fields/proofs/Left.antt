-- What is left of a text, step by step: it is the end of the text, and shorter.
use mathlib.Core.Path.{ap, sym, ◌∙◌}
use Prim.Native.Nat.{ℕ, ◌<◌}
use native.Mathlib.Omega.{arith}
use mathlib.Core.List.{List, ◌++◌, append_assoc}
use lib.ListN.{length, length-append}
use Rattle.fields.specs.Found.{LeftBehind}

module _ {text next : List ℕ} (some_left : LeftBehind 1 text next) where
  pub shorter : length next < length text
  shorter = omega (arith, ap length some_left.splits, length-append some_left.front next, some_left.at_least)

  -- what is left of what is left
  pub further : {least : ℕ} {rest : List ℕ} → LeftBehind least next rest → LeftBehind 1 text rest
  further {least} {rest} left =
      record {
        front = some_left.front ++ left.front;
        splits = some_left.splits ∙ ap (λ behind. some_left.front ++ behind) left.splits ∙ sym (append_assoc some_left.front left.front rest);
        at_least = omega (arith, length-append some_left.front left.front, some_left.at_least);
      }
