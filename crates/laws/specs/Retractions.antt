-- Retractions and their packing. "A retraction is source (today), target (earlier), uncaptured (0 none, 1 P, 2 N, 3 B, 4 R, 5 Q) and un-promotion."
use Rattle.std.specs.Prelude.{ℕ, ◌+◌, ◌*◌, ◌/◌, ◌%◌, ◌<◌, ◌≤◌, eqb}
use Rattle.squares.specs.Squares.{flag}
use Rattle.laws.specs.declared.ChessRetraction.{ChessRetraction}

-- "Packed: source + 64·target + 4,096·uncaptured + 32,768·un-promotion"
abbrev pub packed : ChessRetraction → ℕ
packed r = r.source + 64 * r.target + 4096 * r.uncaptured + 32768 * flag r.unpromotion

abbrev pub unpacked : ℕ → ChessRetraction
unpacked n = record { source = n % 64; target = n / 64 % 64; uncaptured = n / 4096 % 8; unpromotion = eqb (n / 32768) 1 }

-- squares of the board, and the number of an uncaptured man: all that a list holds
pub record InRange (r : ChessRetraction) : Type 0 where
  pub source_in : r.source < 64
  pub target_in : r.target < 64
  pub uncaptured_in : r.uncaptured ≤ 5
