-- The rivals of a row that the code holds are its rivals: each of them is one, and each rival is among them.
use mathlib.Core.Path.{sym, subst}
use Prim.Native.Nat.{ℕ, ◌<◌}
use mathlib.Core.List.{List, Memᴰ}
use lib.Dec.{T}
use lib.ListN.{length}
use Rattle.theory.specs.Gather.{All}
use Rattle.theory.specs.Row.{Row}
use Rattle.theory.specs.Rank.{above, rival, rivals}
use Rattle.theory.specs.Lists.{Shaped, rows_of}
use Rattle.theory.proofs.Each.{all_sort}
use Rattle.theory.proofs.Member.{mem_sort}
use Rattle.theory.proofs.Rank.{all_rivals, mem_rivals}
use Rattle.climbs.specs.Ranking.{ranking_by, rivals_in}
use Rattle.climbs.proofs.ByRank.{rivals_by_rank}

module _ (cs ds ts : List ℕ) (shaped : Shaped cs ds ts) (k : ℕ) where
  abbrev rows : List Row
  rows = rows_of cs ds ts

  -- each of them ranks above row k
  pub each_is_rival : All (λ h. (h < length rows) × T (rival rows h k)) (rivals_in (ranking_by ds) ds k)
  each_is_rival =
      subst (All (λ h. (h < length rows) × T (rival rows h k))) (sym (rivals_by_rank cs ds ts shaped.as_many_deadlines shaped.as_many_periods k))
      (all_sort (λ h. (h < length rows) × T (rival rows h k)) (above rows) (rivals rows k) (all_rivals rows k))

  -- each row of the set that ranks above row k is one of them
  pub each_rival_held : (h : ℕ) → h < length rows → T (rival rows h k) → Memᴰ h (rivals_in (ranking_by ds) ds k)
  each_rival_held h inside is_rival =
      subst (Memᴰ h) (sym (rivals_by_rank cs ds ts shaped.as_many_deadlines shaped.as_many_periods k)) (mem_sort (above rows) (mem_rivals rows h k inside is_rival))
