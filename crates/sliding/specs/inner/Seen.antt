-- What the subtraction and the mirrors do to a set, square by square. Everything here computes on numerals.
use Rattle.std.specs.Prelude.{◌≡◌, ℕ, zero, suc, ◌+◌, ◌-◌, ◌/◌, ◌<◌, Bool, false, cond, not, bit_xor, nat_eq, nat_le}
use Rattle.squares.specs.Tests.{◌and◌, ◌or◌}
use Rattle.squares.specs.Squares.{odd, has, set_of}

-- the set of the squares whose image by g is a member of s
abbrev pub moved : (ℕ → ℕ) → ℕ → ℕ
moved g s = set_of (λ k. has s (g k))

-- the square n away from k, down where n stands among the binary digits of k and else up
abbrev pub turn : ℕ → ℕ → ℕ
turn n k = cond (odd (k / n)) (k - n) (k + n)

-- of each two squares that `turn` exchanges m has the lower
pub record Halves (m n : ℕ) : Type 0 where
  pub short : n < 64
  pub lower : (k : ℕ) → k < 64 → has m k ≡ not (odd (k / n))
  pub upper : (k : ℕ) → k < 64 → (nat_le n k and has m (k - n)) ≡ odd (k / n)

-- the square on the other side of the board on the same file; on the other side of its middle
abbrev pub flipped : ℕ → ℕ
flipped k = bit_xor k 56

abbrev pub mirrored : ℕ → ℕ
mirrored k = 63 - k

-- k is above a, and no member of x stands strictly between them
unfoldable pub opens : ℕ → ℕ → ℕ → Bool
opens a x zero = false
opens a x (suc k) = nat_eq k a or (opens a x k and not (has x k))

-- so, or so on the board turned by g
abbrev pub seen : (ℕ → ℕ) → ℕ → ℕ → ℕ → Bool
seen g a x k = opens a x k or opens (g a) (moved g x) (g k)
