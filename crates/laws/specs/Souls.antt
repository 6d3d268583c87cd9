-- Souls: how many pawns, or men promoted from pawns, a colour must have.
use Rattle.std.specs.Prelude.{Bool, not, ℕ, ◌+◌, ◌-◌, ◌%◌, eqb, leb}
use Rattle.squares.specs.Tests.{◌and◌}
use Rattle.squares.specs.Squares.{file, rank, how_many}
use Rattle.geometry.specs.declared.Color.{Color}
use Rattle.geometry.specs.declared.Color.TheVariants.{White, Black}
use Rattle.laws.specs.declared.Piece.{Piece}
use Rattle.laws.specs.declared.Piece.TheVariants.{Pawn, Knight, Bishop, Rook, Queen}
use Rattle.laws.specs.Men.{man, Men, same_man}

-- "a1 is dark"
abbrev pub dark : ℕ → Bool
dark k = eqb ((file k + rank k) % 2) 0

-- how many men of a colour and a kind there are
abbrev pub number : Men → Color → Piece → ℕ
number m c k = how_many (λ a. same_man (m a) (man c k))

-- "pawns + max(0, knights−2) + max(0, light bishops−1) + max(0, dark bishops−1) + max(0, rooks−2) + max(0, queens−1)";
-- a difference of these numbers is 0 where it would fall below
abbrev pub souls : Men → Color → ℕ
souls m c =
    number m c Pawn + (number m c Knight - 2)
    + (how_many (λ a. same_man (m a) (man c Bishop) and not (dark a)) - 1)
    + (how_many (λ a. same_man (m a) (man c Bishop) and dark a) - 1)
    + (number m c Rook - 2) + (number m c Queen - 1)

-- "souls at most 8 on each side"
abbrev pub souls_ok : Men → Bool
souls_ok m = leb (souls m White) 8 and leb (souls m Black) 8
