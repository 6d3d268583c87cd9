-- Moves forward, by the Laws (3.2 to 3.9), and replay. A move is told by a retraction: the man on the target goes to the source.
use Rattle.std.specs.Prelude.{Bool, true, false, not, cond, ℕ, eqb, leb, ltb}
use Rattle.squares.specs.Tests.{◌and◌, ◌or◌}
use Rattle.geometry.specs.declared.Color.{Color}
use Rattle.geometry.specs.Colors.{opp, rank_for, behind}
use Rattle.geometry.specs.Lines.{files, ranks, clear}
use Rattle.geometry.specs.Steps.{pawn_step, pawn_double, pawn_takes}
use Rattle.laws.specs.declared.Piece.TheVariants.{Pawn, Knight, Bishop, Rook, Queen, King}
use Rattle.laws.specs.declared.EnPassantFlag.{EnPassantFlag}
use Rattle.laws.specs.declared.Edition.{Edition}
use Rattle.laws.specs.declared.EnPassantFlag.TheVariants.{Any, Some, None}
use Rattle.laws.specs.declared.Way.{Way}
use Rattle.laws.specs.declared.Way.TheVariants.{Plain as plain, Passant as passant, Castle as castling}
use Rattle.laws.specs.declared.ChessRetraction.{ChessRetraction}
use Rattle.laws.specs.Men.{Man, empty, man, Men, numbered, same_man, is_of, is_pawn, bare, put}
use Rattle.laws.specs.Attacks.{attacks, attacked}
use Rattle.laws.specs.declared.Side.{Side}
use Rattle.laws.specs.declared.Side.TheVariants.{Short as short, Long as long}
use Rattle.laws.specs.Positions.{Rights, Pos, king_home, corner, king_to, rook_to}
use Rattle.laws.specs.Acceptance.{noted, quiet}

-- the way of the man x from t to s, taking the man numbered u: a pawn that takes nothing on another file takes en passant, and
-- a king that goes from its home to g or c castles
abbrev pub way : Man → ℕ → ℕ → ℕ → Way
way empty t s u = plain
way (man c Pawn) t s u = cond (eqb u 0 and not (eqb (files t s) 0)) passant plain
way (man c Knight) t s u = plain
way (man c Bishop) t s u = plain
way (man c Rook) t s u = plain
way (man c Queen) t s u = plain
way (man c King) t s u =
    cond (eqb t (king_home c))
    (cond (eqb s (king_to c short)) (castling short) (cond (eqb s (king_to c long)) (castling long) plain)) plain

-- the square that a move of c to s clears beside t, and then the one that it fills beside s
abbrev pub cleared : Way → Color → ℕ → Men → Men
cleared plain c s m = m
cleared passant c s m = put (behind c s) empty m
cleared (castling d) c s m = put (corner c d) empty m

abbrev pub filled : Way → Color → Men → Men
filled plain c m = m
filled passant c m = m
filled (castling d) c m = put (rook_to c d) (man c Rook) m

-- the men after the move: x is the man that arrives
abbrev pub after : Way → Color → ℕ → ℕ → Man → Men → Men
after w c t s x m = put s x (filled w c (put t empty (cleared w c s m)))

-- a pawn's step without taking: "forward to the square immediately in front of it", or "on its first move two squares, provided that both are vacant"
abbrev pub pawn_goes : Men → Color → ℕ → ℕ → Bool
pawn_goes m c t s = pawn_step c t s or (pawn_double c t s and clear (bare m) t s)

-- the man x on t reaches s, on which the man numbered u stands
abbrev pub moves : Men → Man → ℕ → ℕ → ℕ → Bool
moves m empty t s u = false
moves m (man c Pawn) t s u = cond (eqb u 0) (pawn_goes m c t s) (pawn_takes c t s)
moves m (man c Knight) t s u = attacks m (man c Knight) t s
moves m (man c Bishop) t s u = attacks m (man c Bishop) t s
moves m (man c Rook) t s u = attacks m (man c Rook) t s
moves m (man c Queen) t s u = attacks m (man c Queen) t s
moves m (man c King) t s u = attacks m (man c King) t s

abbrev pub is_named : EnPassantFlag → ℕ → Bool
is_named Any q = false
is_named None q = false
is_named (Some p) q = eqb p q

-- the step by its way: "en passant only where its square is named, castling only with the right" and nothing between king and rook
abbrev pub goes : Pos → Way → ℕ → ℕ → ℕ → Bool
goes p plain t s u = moves p.men (p.men t) t s u
goes p passant t s u = pawn_takes p.turn t s and is_named p.state (behind p.turn s)
goes p (castling d) t s u =
    eqb u 0 and p.rights p.turn d and clear (bare p.men) (king_home p.turn) (corner p.turn d)

-- "a pawn's step to the last rank always needs this mark and nothing else may bear it"; k is "the kind promoted to (0 when unmarked, else 2 to 5)"
abbrev pub mark_ok : Man → Color → ℕ → Bool → ℕ → Bool
mark_ok x c s true k = is_pawn x and eqb (rank_for c s) 7 and leb 2 k and leb k 5
mark_ok x c s false k = not (is_pawn x and eqb (rank_for c s) 7) and eqb k 0

-- replay's 12: "a man of the side to move on the target can make that step to the source, checks ignored, with exactly that uncaptured man, mark and kind"
abbrev pub possible : Pos → ChessRetraction → ℕ → Bool
possible p r k =
    let t = r.target in
    let s = r.source in
    let u = r.uncaptured in
    ltb s 64 and ltb t 64 and leb u 5 and is_of p.turn (p.men t) and same_man (p.men s) (numbered (opp p.turn) u)
    and mark_ok (p.men t) p.turn s r.unpromotion k and goes p (way (p.men t) t s u) t s u

-- the man that arrives
abbrev pub arriving : Bool → Man → Color → ℕ → Man
arriving true x c k = numbered c k
arriving false x c k = x

-- "Castling rights are lost as the Laws say": by a move of the king, of the rook, or onto the rook
abbrev pub keeps : ℕ → ℕ → Color → Side → Bool
keeps t s c d = not (eqb t (king_home c)) and not (eqb t (corner c d)) and not (eqb s (king_home c)) and not (eqb s (corner c d))

abbrev pub kept : ℕ → ℕ → Rights → Rights
kept t s ρ c d = ρ c d and keeps t s c d

-- "After it the state is the pawn's square if it was a double step beside an enemy pawn, otherwise none"; in B, after any double step
abbrev pub state_after : Edition → Men → Man → ℕ → ℕ → EnPassantFlag
state_after v m empty t s = None
state_after v m (man c Pawn) t s = cond (eqb (ranks t s) 2 and noted v m (opp c) s) (Some s) None
state_after v m (man c Knight) t s = None
state_after v m (man c Bishop) t s = None
state_after v m (man c Rook) t s = None
state_after v m (man c Queen) t s = None
state_after v m (man c King) t s = None

-- replay: "the men, turn, rights and state after the move"
abbrev pub replayed : Pos → ChessRetraction → ℕ → Pos
replayed p r k =
    let t = r.target in
    let s = r.source in
    let x = p.men t in
    record {
      men = after (way x t s r.uncaptured) p.turn t s (arriving r.unpromotion x p.turn k) p.men;
      turn = opp p.turn;
      rights = kept t s p.rights;
      state = state_after p.terms.edition p.men x t s;
      terms = p.terms;
    }

-- "castling out of or through attack excluded"
abbrev pub safe : Men → Way → Color → Bool
safe m plain c = true
safe m passant c = true
safe m (castling d) c = not (attacked m (opp c) (king_home c)) and not (attacked m (opp c) (rook_to c d))

-- "The move is legal under the Laws": possible, castling safe, and the mover's king not left attacked
abbrev pub legal : Pos → ChessRetraction → ℕ → Bool
legal p r k =
    possible p r k and safe p.men (way (p.men r.target) r.target r.source r.uncaptured) p.turn
    and quiet (replayed p r k).men (opp p.turn)
