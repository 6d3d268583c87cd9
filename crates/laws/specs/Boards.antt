-- A board of bit sets, as the program holds it: "six sets of squares by kind and two by colour, the turn, each colour's castling rights, and
-- the worked-out union, checkers and pins".
use Rattle.std.specs.Prelude.{◌≡◌, Bool, true, false, List, [], ◌∷◌, ℕ, ◌+◌, ◌^◌, ◌<◌, eqb, leb, ltb, length, get_or}
use Rattle.squares.specs.Tests.{◌and◌}
use Rattle.squares.specs.Squares.{has, flag, set_of, every_square}
use Rattle.geometry.specs.declared.Color.{Color}
use Rattle.geometry.specs.declared.Color.TheVariants.{White, Black}
use Rattle.laws.specs.declared.Piece.{Piece}
use Rattle.laws.specs.declared.Piece.TheVariants.{Pawn, Knight, Bishop, Rook, Queen, King}
use Rattle.laws.specs.declared.Position.{Position}
use Rattle.laws.specs.declared.Board.{Board}
use Rattle.laws.specs.declared.ChessRetraction.{ChessRetraction}
use Rattle.laws.specs.Men.{Man, empty, man, Men, color_place, kind_place, is_of, is_kind}
use Rattle.laws.specs.Attacks.{union_of, checkers_of, pins_of}
use Rattle.laws.specs.declared.Side.TheVariants.{Short as short, Long as long}
use Rattle.laws.specs.Positions.{Pos, rights_of, rights_for}
use Rattle.laws.specs.Acceptance.{accepted}
use Rattle.laws.specs.Strictness.{Gives}

-- the set of a kind, and of a colour
abbrev pub kind_set : List ℕ → Piece → ℕ
kind_set pieces k = get_or pieces (kind_place k) 0

abbrev pub color_set : List ℕ → Color → ℕ
color_set colors c = get_or colors (color_place c) 0

-- the kind of a man, and the man of a square, by the sets that it is in
abbrev pub kind_by : Bool → Bool → Bool → Bool → Bool → Piece
kind_by true n b r q = Pawn
kind_by false true b r q = Knight
kind_by false false true r q = Bishop
kind_by false false false true q = Rook
kind_by false false false false true = Queen
kind_by false false false false false = King

abbrev pub man_by : Bool → Bool → Piece → Man
man_by true b k = man White k
man_by false true k = man Black k
man_by false false k = empty

-- what stands on each square; nothing on 64 and above
unfoldable pub men_at : List ℕ → List ℕ → Men
men_at pieces colors a =
    elim (ltb a 64) [
      | true ↦ man_by (has (color_set colors White) a) (has (color_set colors Black) a)
          (kind_by (has (kind_set pieces Pawn) a) (has (kind_set pieces Knight) a) (has (kind_set pieces Bishop) a) (has (kind_set pieces Rook) a) (has (kind_set pieces Queen) a))
      | false ↦ empty
    ]

-- how many kinds a square has, and how many colours
abbrev pub kinds_at : List ℕ → ℕ → ℕ
kinds_at pieces a =
    flag (has (kind_set pieces Pawn) a) + flag (has (kind_set pieces Knight) a) + flag (has (kind_set pieces Bishop) a)
    + flag (has (kind_set pieces Rook) a) + flag (has (kind_set pieces Queen) a) + flag (has (kind_set pieces King) a)

abbrev pub colors_at : List ℕ → ℕ → ℕ
colors_at colors a = flag (has (color_set colors White) a) + flag (has (color_set colors Black) a)

-- 1 MEN: "the kind sets overlap, the colour sets overlap, or their unions differ": each square has at most one kind, and as many colours
unfoldable pub men_ok : List ℕ → List ℕ → Bool
men_ok pieces colors = every_square (λ a. eqb (kinds_at pieces a) (colors_at colors a) and leb (kinds_at pieces a) 1)

-- the sets of given men: each has the squares of its men
unfoldable pub kind_sets : Men → List ℕ
kind_sets m =
    set_of (λ a. is_kind Pawn (m a)) ∷ set_of (λ a. is_kind Knight (m a)) ∷ set_of (λ a. is_kind Bishop (m a)) ∷ set_of (λ a. is_kind Rook (m a))
    ∷ set_of (λ a. is_kind Queen (m a)) ∷ set_of (λ a. is_kind King (m a)) ∷ []

unfoldable pub color_sets : Men → List ℕ
color_sets m = set_of (λ a. is_of White (m a)) ∷ set_of (λ a. is_of Black (m a)) ∷ []

-- clean men: the arrays are the sets of the men that they show. It is what refusal 1 passing says of six sets and two
pub record Clean (pieces colors : List ℕ) : Type 0 where
  pub kinds : pieces ≡ kind_sets (men_at pieces colors)
  pub colours : colors ≡ color_sets (men_at pieces colors)

-- what stands on each square of a position held as sets, and the Laws' position that its fields show
abbrev pub men_in : Position → Men
men_in p = men_at p.pieces p.colors

abbrev pub pos_at : Position → Pos
pos_at p = record { men = men_in p; turn = p.turn; rights = rights_of p.white p.black; state = p.passant; terms = p.terms }

-- a board's fields without the worked-out ones, and the position that they show
abbrev pub fields_of : Board → Position
fields_of b = record { pieces = b.pieces; colors = b.colors; turn = b.turn; white = b.white; black = b.black; passant = b.passant; terms = b.terms }

abbrev pub pos_of : Board → Pos
pos_of b = pos_at (fields_of b)

-- six sets and two, of 64 squares each
pub record Shaped (b : Board) : Type 0 where
  pub six : length b.pieces ≡ 6
  pub two : length b.colors ≡ 2
  pub kinds_fit : (k : Piece) → kind_set b.pieces k < 2 ^ 64
  pub colors_fit : (c : Color) → color_set b.colors c < 2 ^ 64

-- 7 STALE: "union, checkers or pins aren't those of the men"
abbrev pub fresh_ok : Board → Bool
fresh_ok b =
    eqb b.combined (union_of (pos_of b).men) and eqb b.checkers (checkers_of (pos_of b).men b.turn)
    and eqb b.pinned (pins_of (pos_of b).men b.turn)

-- "A board passing 1 to 7 is accepted"
abbrev pub accepted_board : Board → Bool
accepted_board b = men_ok b.pieces b.colors and accepted (pos_of b) and fresh_ok b

-- the one board of a position: its sets, and 7 worked out
abbrev pub board_of : Pos → Board
board_of p = record {
  pieces = kind_sets p.men;
  colors = color_sets p.men;
  combined = union_of p.men;
  turn = p.turn;
  white = rights_for (p.rights White short) (p.rights White long);
  black = rights_for (p.rights Black short) (p.rights Black long);
  pinned = pins_of p.men p.turn;
  checkers = checkers_of p.men p.turn;
  passant = p.state;
  terms = p.terms;
}

-- the past of a retraction, its earlier board being one of bit sets, accepted by 1 to 7
abbrev pub BoardPast : Board → ChessRetraction → Type 0
BoardPast b r = (e : Board) × (k : ℕ) × Shaped e × (accepted_board e ≡ true) × Gives (pos_of e) (pos_of b) r k
