-- Un-make, and the refusals 9 to 12 of a retraction.
use Rattle.std.specs.Prelude.{Bool, true, false, not, ℕ, eqb, ltb}
use Rattle.squares.specs.Tests.{◌and◌, ◌or◌}
use Rattle.geometry.specs.declared.Color.{Color}
use Rattle.geometry.specs.Colors.{opp, rank_for, behind}
use Rattle.laws.specs.declared.Piece.TheVariants.{Pawn, Rook}
use Rattle.laws.specs.declared.EnPassantFlag.{EnPassantFlag}
use Rattle.laws.specs.declared.EnPassantFlag.TheVariants.{Any, Some}
use Rattle.laws.specs.declared.ChessRetraction.{ChessRetraction}
use Rattle.laws.specs.Men.{Man, empty, man, Men, kind_number, numbered, same_man, is_empty, is_of, is_pawn, put, color_place}
use Rattle.laws.specs.declared.Side.{Side}
use Rattle.laws.specs.declared.Side.TheVariants.{Short as short, Long as long}
use Rattle.laws.specs.Positions.{Rights, Pos, retractor, king_home, corner, rook_to}
use Rattle.laws.specs.Acceptance.{edge}
use Rattle.laws.specs.declared.Way.{Way}
use Rattle.laws.specs.declared.Way.TheVariants.{Plain as plain, Passant as passant, Castle as castling}
use Rattle.laws.specs.Moves.{way, possible}

-- the square that un-make clears beside s, and then the one that it fills beside t
abbrev pub uncleared : Way → Color → Men → Men
uncleared plain c m = m
uncleared passant c m = m
uncleared (castling d) c m = put (rook_to c d) empty m

abbrev pub unfilled : Way → Color → ℕ → Men → Men
unfilled plain c s m = m
unfilled passant c s m = put (behind c s) (man (opp c) Pawn) m
unfilled (castling d) c s m = put (corner c d) (man c Rook) m

-- "the men go back, an uncaptured man of the side to move stands on the source": x is the man that left t, y the man that stood on s
abbrev pub before : Way → Color → ℕ → ℕ → Man → Man → Men → Men
before w c t s x y m = put t x (unfilled w c s (put s y (uncleared w c m)))

-- the man that left the target, by the man x on the source today: a pawn where the retraction is marked
abbrev pub leaving : Bool → Color → Man → Man
leaving true c x = man c Pawn
leaving false c x = x

abbrev pub same_side : Side → Side → Bool
same_side short short = true
same_side short long = false
same_side long short = false
same_side long long = true

abbrev pub same_right : Color → Side → Color → Side → Bool
same_right c d c' d' = eqb (color_place c) (color_place c') and same_side d d'

-- "Castling returns the rook and the one right"
abbrev pub regained : Way → Color → Rights → Rights
regained plain c ρ c' d' = ρ c' d'
regained passant c ρ c' d' = ρ c' d'
regained (castling d) c ρ c' d' = ρ c' d' or same_right c d c' d'

-- "The state becomes unknown, or the reappearing pawn's square after un-en-passant"
abbrev pub state_before : Way → Color → ℕ → EnPassantFlag
state_before plain c s = Any
state_before passant c s = Some (behind c s)
state_before (castling d) c s = Any

-- the earlier position: c is the retractor, w the way of the move that is taken back
abbrev pub unmade_by : Way → Color → Pos → ChessRetraction → Pos
unmade_by w c p r = record {
  men = before w c r.target r.source (leaving r.unpromotion c (p.men r.source)) (numbered (opp c) r.uncaptured) p.men;
  turn = c;
  rights = regained w c p.rights;
  state = state_before w c r.source;
  terms = p.terms;
}

abbrev pub way_back : Color → Pos → ChessRetraction → Way
way_back c p r = way (leaving r.unpromotion c (p.men r.source)) r.target r.source r.uncaptured

abbrev pub unmade : Pos → ChessRetraction → Pos
unmade p r = unmade_by (way_back (retractor p) p r) (retractor p) p r

-- 9 SOURCE: "source above 63; or no man of the retractor on the source"
abbrev pub source_ok : Color → Pos → ChessRetraction → Bool
source_ok c p r = ltb r.source 64 and is_of c (p.men r.source)

-- 10 TARGET: "target above 63 or not empty"
abbrev pub target_ok : Pos → ChessRetraction → Bool
target_ok p r = ltb r.target 64 and is_empty (p.men r.target)

-- 11 HELD: "source is the retractor's king while it has a right, or a corner rook that a right covers"
abbrev pub held : Rights → Color → ℕ → Bool
held ρ c s = (ρ c short and (eqb s (king_home c) or eqb s (corner c short))) or (ρ c long and (eqb s (king_home c) or eqb s (corner c long)))

-- what must stand today beside source and target: "today's squares before and behind the source being empty (un-en-passant)", to the
-- sixth rank; the rook beside the castled king, and its corner empty
abbrev pub undoable : Way → Color → ℕ → Men → Bool
undoable plain c s m = true
undoable passant c s m = eqb (rank_for c s) 5 and is_empty (m (behind c s)) and is_empty (m (behind (opp c) s))
undoable (castling d) c s m = same_man (m (rook_to c d)) (man c Rook) and is_empty (m (corner c d))

-- the number of the kind that stands on the source, where the retraction is marked
abbrev pub promoted_to : Bool → Man → ℕ
promoted_to true empty = 0
promoted_to true (man c k) = kind_number k
promoted_to false x = 0

-- 12 STEP: "on the men it leaves behind, the man on the target could step to the source, checks ignored"; "an uncaptured pawn on rank 1 or 8"
-- is refused, and "The pawn's earlier square is never on rank 1 or 8". w is the way, c the retractor, e the un-made position
abbrev pub supported : Way → Color → Pos → Pos → ChessRetraction → Bool
supported w c e p r =
    undoable w c r.source p.men
    and not (is_pawn (numbered (opp c) r.uncaptured) and edge r.source) and not (is_pawn (e.men r.target) and edge r.target)
    and possible e r (promoted_to r.unpromotion (p.men r.source))

-- 9 to 12
abbrev pub retractable : Way → Color → Pos → Pos → ChessRetraction → Bool
retractable w c e p r = source_ok c p r and target_ok p r and not (held p.rights c r.source) and supported w c e p r
