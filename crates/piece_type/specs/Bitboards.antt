-- The operators of the Rust, as it writes them: on a `BitBoard`, a number here; and on squares, ranks, files and counts, numbers too. On tests,
-- `&&`, `||` and `!` are `and`, `or` and `not`.
use Rattle.std.specs.Prelude.{Bool, not, ℕ, eqb}
use Rattle.std.specs.Int.Bits.{bit_and, bit_or, bit_xor}
use Rattle.squares.specs.Squares.{only}
use Rattle.squares.specs.Members.{compl, first_of}

-- which binds tighter is as in the Rust
infix 90 !◌
infixl 80 ◌&◌
infixl 75 ◌⊻◌
infixl 70 ◌¦◌
infix 50 ◌!=◌
-- `!a` and `a & b`
abbrev pub !◌ : ℕ → ℕ
! a = compl a

abbrev pub ◌&◌ : ℕ → ℕ → ℕ
a & b = bit_and a b

-- `a ^ b` and `a | b`, whose signs have another meaning here
abbrev pub ◌⊻◌ : ℕ → ℕ → ℕ
a ⊻ b = bit_xor a b

abbrev pub ◌¦◌ : ℕ → ℕ → ℕ
a ¦ b = bit_or a b

-- `a != b`; `a == b` and `if t { x } else { y }` are the library's
abbrev pub ◌!=◌ : ℕ → ℕ → Bool
a != b = not (eqb a b)

-- `EMPTY`, `BitBoard::from_square(sq)` and `s.to_square()`
abbrev pub EMPTY : ℕ
EMPTY = 0

abbrev pub from_square : ℕ → ℕ
from_square sq = only sq

abbrev pub to_square : ℕ → ℕ
to_square s = first_of s
