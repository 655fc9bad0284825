-- A signed number moved one way, past what a function gives at the numbers that were visited, and no further than it must: how a greatest or a smallest
-- is kept while its numbers come up.
use Rattle.std.specs.Prelude.{◌≡◌, ℕ, true, false, ◌⊎◌, ℤ, ◌≤ℤ◌}
use Rattle.std.specs.Int.Signed.{lt_z}

pub record MovedTo (Before : ℤ → ℤ → Type 0) (value : ℕ → ℤ) (Visited : ℕ → Type 0) (before after : ℤ) : Type 0 where
  pub onward : Before before after
  pub past_visited : (p : ℕ) → Visited p → Before (value p) after
  pub attained : (after ≡ before) ⊎ ((p : ℕ) × Visited p × (value p ≡ after))

-- lifted to the greatest of itself and those
abbrev pub LiftedTo : (ℕ → ℤ) → (ℕ → Type 0) → ℤ → ℤ → Type 0
LiftedTo = MovedTo (λ a b. a ≤ℤ b)

-- lowered to the smallest of itself and those
abbrev pub LoweredTo : (ℕ → ℤ) → (ℕ → Type 0) → ℤ → ℤ → Type 0
LoweredTo = MovedTo (λ a b. b ≤ℤ a)

-- the greater and the smaller of two numbers, the first where they are equal
unfoldable pub greater : ℤ → ℤ → ℤ
greater a b = elim (lt_z a b) [ true ↦ b | false ↦ a ]

unfoldable pub smaller : ℤ → ℤ → ℤ
smaller a b = elim (lt_z b a) [ true ↦ b | false ↦ a ]
