-- On bytes too, the promise determines the explanation: what is returned, the limiting row and the point.
use mathlib.Core.Path.{refl}
use Prim.Native.Nat.{ℕ}
use mathlib.Core.List.{List}
use Rattle.theory.specs.Returned.{Returned}
use Rattle.theory.proofs.Explained.{SameExplanation, explained_unique}
use Rattle.records.specs.ListBytes.{numbers_in}
use Rattle.records.specs.ExplanationBytes.{BytesExplained, lengths_not_fours, explained_as_numbers}

module _ (cs ds ts : List ℕ) (row : ℕ) where
  pub bytes_explained_unique : {a b : Returned} {k h p q : ℕ} → BytesExplained cs ds ts row a k p → BytesExplained cs ds ts row b h q → SameExplanation a b k h p q
  bytes_explained_unique (lengths_not_fours n) (lengths_not_fours m) = record { same_answer = refl; same_row = refl; same_point = refl }
  bytes_explained_unique (lengths_not_fours n) (explained_as_numbers b h q g r) = absurd (n g)
  bytes_explained_unique (explained_as_numbers a k p f r) (lengths_not_fours m) = absurd (m f)
  bytes_explained_unique (explained_as_numbers a k p f r) (explained_as_numbers b h q g s) = explained_unique (numbers_in cs) (numbers_in ds) (numbers_in ts) row r s
