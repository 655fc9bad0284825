-- The lines of a table, put into a lent byte string where they fit.
use mathlib.Core.Path.{◌≡◌, sym, ap, subst, ◌∙◌}
use Prim.Native.Nat.{ℕ, ◌≤◌, ◌<◌}
use mathlib.Core.List.{List, ◌++◌}
use lib.ListN.{length, drop}
use Rattle.theory.specs.Lists.{filled}
use Rattle.placement.specs.Choice.{allowance_fit}
use Rattle.service.specs.Table.{Listed, ListingAnswered}

module _ (bytes listing lines : List ℕ) (n : ℕ) (listed : Listed allowance_fit bytes lines) (many : length lines ≡ n) where
  pub lines_too_long : length listing < n → ListingAnswered allowance_fit bytes listing 0 listing
  lines_too_long short = ListingAnswered.too_short lines listed (subst (λ (k : ℕ). length listing < k) (sym many) short)

  pub lines_put : (after : List ℕ) → n ≤ length listing → after ≡ lines ++ drop n listing → ListingAnswered allowance_fit bytes listing n after
  lines_put after fits put =
      subst (λ (l : List ℕ). ListingAnswered allowance_fit bytes listing n l)
      (sym (put ∙ ap (λ (k : ℕ). lines ++ drop k listing) (sym many)))
      (subst (λ (k : ℕ). ListingAnswered allowance_fit bytes listing k (filled lines listing)) many
      (ListingAnswered.written lines listed (subst (λ (k : ℕ). k ≤ length listing) (sym many) fits)))
