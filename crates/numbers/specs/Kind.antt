-- The kinds of records by their bytes: document 01, "Records".
use Rattle.std.specs.Prelude.{◌≡◌, ℕ, Result, MatchResult}
use Rattle.numbers.specs.declared.kind.Kind.{Kind}
use Rattle.numbers.specs.declared.kind.Kind.TheVariants.{Table, Row, Figures, End}
use Rattle.numbers.specs.declared.kind.UnknownKind.{UnknownKind}

-- the byte that stands first in a record of a kind
abbrev pub byte_of : Kind → ℕ
byte_of Table = 1
byte_of Row = 2
byte_of Figures = 3
byte_of End = 4

-- the kind that has a byte, or that none has it
abbrev pub IsKind : ℕ → Result Kind UnknownKind → Type 0
IsKind byte found = MatchResult found (λ kind. byte_of kind ≡ byte) (λ unknown. (kind : Kind) → byte_of kind ≡ byte → ⊥)
