-- Which men forbid a castling. The Laws forbid it (3.8) "if the square on which the king stands, or the square which it must cross, or the
-- square which it is to occupy, is attacked by one or more of the opponent's pieces": the men are those of the board before it.
use Rattle.std.specs.Prelude.{false, List, [], ◌∷◌, ◌++◌, Result, Ok, Err}
use Rattle.geometry.specs.declared.Color.{Color}
use Rattle.geometry.specs.Colors.{opp}
use Rattle.laws.specs.declared.Piece.TheVariants.{King}
use Rattle.laws.specs.declared.Side.{Side}
use Rattle.laws.specs.declared.ChessRetraction.{ChessRetraction}
use Rattle.laws.specs.Men.{man, Men, same_man}
use Rattle.laws.specs.Attacks.{attackers_of}
use Rattle.laws.specs.Positions.{Pos, retractor, king_home, king_to, rook_to}
use Rattle.laws.specs.Unmaking.{unmade}
use Rattle.refusal.specs.declared.Refusal.{Refusal}
use Rattle.refusal.specs.declared.Refusal.TheVariants.{Step}
use Rattle.refusal.specs.Said.{Test, ◌else◌, Said, told, refusal}
use Rattle.board.specs.Moving.{unmake_tests}
use Rattle.castling.specs.declared.KingsWay.{KingsWay}

-- the castling of c on a side, taken back
abbrev pub uncastling : Color → Side → ChessRetraction
uncastling c d = record { source = king_to c d; target = king_home c; uncaptured = 0; unpromotion = false }

-- 9 to 12 of the retractor's, and 12 where it is no king that goes back: a queen or a rook could
abbrev pub uncastle_tests : Pos → Side → List Test
uncastle_tests p d =
    unmake_tests p (uncastling (retractor p) d) ++ ((same_man (p.men (king_to (retractor p) d)) (man (retractor p) King) else Step) ∷ [])

-- the opponent's men that attack each square of the king's way, c castling over the men m: it crosses the square that the rook goes to
abbrev pub kings_way : Men → Color → Side → KingsWay
kings_way m c d = record {
  home = attackers_of m (opp c) (king_home c);
  crossed = attackers_of m (opp c) (rook_to c d);
  reached = attackers_of m (opp c) (king_to c d);
}

-- those of the retractor's castling, on the men before it
unfoldable pub way_before : Pos → Side → KingsWay
way_before p d = kings_way (unmade p (uncastling (retractor p) d)).men (retractor p) d

-- three sets, in the order of the way
abbrev pub castling_says : Result KingsWay Refusal → Said
castling_says (Ok w) = told (w.home ∷ w.crossed ∷ w.reached ∷ [])
castling_says (Err r) = refusal r
