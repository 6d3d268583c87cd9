-- Where a man can have come from by its step on today's men: it serves to pass over targets that no strict retraction has.
use Rattle.std.specs.Prelude.{Bool, ℕ, eqb}
use Rattle.squares.specs.Tests.{◌or◌}
use Rattle.laws.specs.declared.Piece.TheVariants.{Pawn}
use Rattle.laws.specs.declared.ChessRetraction.{ChessRetraction}
use Rattle.laws.specs.Men.{Man, man, Men}
use Rattle.laws.specs.Positions.{Pos, retractor, king_home}
use Rattle.moves.specs.inner.Parts.{moves_for}

-- the step of the man x from t to s, with a capture or without
unfoldable pub steps_for : Men → Man → ℕ → ℕ → Bool
steps_for m x t s = moves_for m x t s 0 or moves_for m x t s 1

-- of the man on the source, or of the pawn that it was; or castling
unfoldable pub comes_for : Pos → ChessRetraction → Bool
comes_for p r =
    steps_for p.men (p.men r.source) r.target r.source or steps_for p.men (man (retractor p) Pawn) r.target r.source
    or eqb r.target (king_home (retractor p))
