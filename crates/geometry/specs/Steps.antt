-- The steps of the men, on an empty board or past men. Everything here computes on numerals.
use Rattle.std.specs.Prelude.{Bool, not, ℕ, ◌+◌, eqb, ltb}
use Rattle.squares.specs.Tests.{◌and◌, ◌or◌}
use Rattle.geometry.specs.declared.Color.{Color}
use Rattle.geometry.specs.Colors.{rank_for}
use Rattle.geometry.specs.Lines.{files, ranks, straight, diagonal, clear}

-- a knight's leap: one file and two ranks, or two files and one rank
unfoldable pub knight_step : ℕ → ℕ → Bool
knight_step a b = (eqb (files a b) 1 and eqb (ranks a b) 2) or (eqb (files a b) 2 and eqb (ranks a b) 1)

-- a king's step: to any adjoining square
unfoldable pub king_step : ℕ → ℕ → Bool
king_step a b = not (eqb a b) and (ltb (files a b) 2 and ltb (ranks a b) 2)

-- a pawn of the colour c on a: the square ahead; the one two ahead, from its second rank; those that it attacks
unfoldable pub pawn_step : Color → ℕ → ℕ → Bool
pawn_step c a b = eqb (files a b) 0 and eqb (rank_for c b) (rank_for c a + 1)

unfoldable pub pawn_double : Color → ℕ → ℕ → Bool
pawn_double c a b = eqb (files a b) 0 and eqb (rank_for c a) 1 and eqb (rank_for c b) 3

unfoldable pub pawn_takes : Color → ℕ → ℕ → Bool
pawn_takes c a b = eqb (rank_for c b) (rank_for c a + 1) and eqb (files a b) 1

-- the lines of a slider that moves as a rook, as a bishop, or as both
unfoldable pub slide_line : Bool → Bool → ℕ → ℕ → Bool
slide_line rook bishop a b = (rook and straight a b) or (bishop and diagonal a b)

-- b is reached from a along a line, past squares that pass the test `free`
abbrev pub reaches : (ℕ → ℕ → Bool) → (ℕ → Bool) → ℕ → ℕ → Bool
reaches on free a b = on a b and clear free a b
