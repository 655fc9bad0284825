-- What a number moved past visited ones comes to: where it began behind one of them it is one of them, and it moves alike past the same values, however
-- they are numbered.
use mathlib.Core.Path.{◌≡◌, sym, ◌∙◌, subst}
use Prim.Native.Nat.{ℕ}
use mathlib.Core.Logic.{inl, inr, ⊎_elim}
use lib.IntN.{ℤ}
use Rattle.theory.specs.Moved.{MovedTo}

-- a number is what a function gives at a visited one
pub record Attained (value : ℕ → ℤ) (Visited : ℕ → Type 0) (z : ℤ) : Type 0 where
  pub at : ℕ
  pub visited : Visited at
  pub gives : value at ≡ z

-- where it began behind what the function gives at a visited number
pub moved_attains : (Before : ℤ → ℤ → Type 0) → ((x y : ℤ) → Before x y → Before y x → x ≡ y)
    → (value : ℕ → ℤ) (Visited : ℕ → Type 0) (before after : ℤ)
    → MovedTo Before value Visited before after
    → (p : ℕ)
    → Visited p
    → Before before (value p)
    → Attained value Visited after
moved_attains Before antisymmetric value Visited before after moved p visited behind =
    ⊎_elim
    (λ same. record { at = p; visited = visited; gives = antisymmetric (value p) after (moved.past_visited p visited) (subst (λ (z : ℤ). Before z (value p)) (sym same) behind) })
    (λ q. record { at = q.0; visited = q.1; gives = q.2 })
    moved.attained

-- past the same values
pub moved_renumbered : (Before : ℤ → ℤ → Type 0) (value : ℕ → ℤ) (Visited : ℕ → Type 0) (other : ℕ → ℤ) (Others : ℕ → Type 0)
    → ((p : ℕ) → Visited p → Attained other Others (value p))
    → ((q : ℕ) → Others q → Attained value Visited (other q))
    → (before after : ℤ)
    → MovedTo Before value Visited before after
    → MovedTo Before other Others before after
moved_renumbered Before value Visited other Others there back before after moved = record {
  onward = moved.onward;
  past_visited = λ q w. let v = back q w in subst (λ (z : ℤ). Before z after) v.gives (moved.past_visited v.at v.visited);
  attained = ⊎_elim inl (λ p. let w = there p.0 p.1 in inr (w.at, w.visited, w.gives ∙ p.2)) moved.attained;
}
