-- The body of a problem: "a board's men, turn, rights and state in 40 bytes or fewer". It has 34. What the writer writes is the form, and the reader
-- inverts it.
use Rattle.std.specs.Prelude.{◌≡◌, List, [], ◌∷◌, ◌++◌, ℕ, zero, suc, ◌+◌, ◌-◌, ◌*◌}
use Rattle.squares.specs.Squares.{file, rank}
use Rattle.geometry.specs.declared.Color.{Color}
use Rattle.laws.specs.declared.CastleRights.{CastleRights}
use Rattle.laws.specs.declared.CastleRights.TheVariants.{NoRights, KingSide, QueenSide, Both}
use Rattle.laws.specs.declared.EnPassantFlag.{EnPassantFlag}
use Rattle.laws.specs.declared.EnPassantFlag.TheVariants.{Any, Some, None}
use Rattle.laws.specs.declared.Edition.{Edition}
use Rattle.laws.specs.declared.Position.{Position}
use Rattle.laws.specs.Men.{Men, man_number, color_place}
use Rattle.laws.specs.Positions.{terms_of}
use Rattle.laws.specs.Boards.{men_in, Clean}
use Rattle.position.specs.Answers.{no_position}
use Rattle.position_text.specs.declared.Form.{Form}
use Rattle.position_text.specs.declared.Form.TheVariants.{InForm, OutOfForm}
use Rattle.position_text.specs.declared.Raw.{Raw}
use Rattle.position_text.specs.Form.{StateFits}

-- the square of a place in the order of a text, "men from rank 8 down": 0 is a8, 7 is h8, 63 is h1
unfoldable pub square_at : ℕ → ℕ
square_at p = 8 * (7 - rank p) + file p

-- the number of the man at a place: 0 empty, 2 P, 3 p, 4 N, 5 n, 6 B, 7 b, 8 R, 9 r, 10 Q, 11 q, 12 K, 13 k
abbrev pub number_at : Men → ℕ → ℕ
number_at m p = man_number (m (square_at p))

-- byte j: the place 2j in its high half, and 2j + 1 in the low one
unfoldable pub pair_at : Men → ℕ → ℕ
pair_at m j = 16 * number_at m (2 * j) + number_at m (2 * j + 1)

-- the first n bytes
unfoldable pub men_bytes : Men → ℕ → List ℕ
men_bytes m zero = []
men_bytes m (suc n) = men_bytes m n ++ (pair_at m n ∷ [])

-- one colour's rights: 1 for the king's side, 2 for the queen's
abbrev pub side_number : CastleRights → ℕ
side_number NoRights = 0
side_number KingSide = 1
side_number QueenSide = 2
side_number Both = 3

-- byte 32: bit 0 is the turn, 1 for Black, bits 1 and 2 are White's rights, bits 3 and 4 Black's, and the others are 0
abbrev pub head_byte : Color → CastleRights → CastleRights → ℕ
head_byte c w b = color_place c + 2 * side_number w + 8 * side_number b

-- byte 33: the pawn's square, 64 for none, 65 for unknown
abbrev pub state_byte : EnPassantFlag → ℕ
state_byte Any = 65
state_byte (Some s) = s
state_byte None = 64

-- "a board's men, turn, rights and state"
unfoldable pub body_of : Men → Color → CastleRights → CastleRights → EnPassantFlag → List ℕ
body_of m c w b e = men_bytes m 32 ++ (head_byte c w b ∷ state_byte e ∷ [])

-- the body of a position's fields
abbrev pub bodied : Position → List ℕ
bodied p = body_of (men_in p) p.turn p.white p.black p.passant

-- the bytes t are the body of p in the edition v, which a body does not name: its men are clean, a square that it names is of the board, and the
-- writer writes t of them
pub record Embodies (v : Edition) (p : Position) (t : List ℕ) : Type 0 where
  pub edition : p.terms ≡ terms_of v
  pub clean : Clean p.pieces p.colors
  pub square : StateFits p.passant
  pub bytes : bodied p ≡ t

-- "18 BODY (a body with no such board)": in form exactly when the bytes are the body of the position, out of form exactly when they are that of none
abbrev pub AnswersBy : Edition → List ℕ → Position → Form → Type 0
AnswersBy v t p InForm = Embodies v p t
AnswersBy v t p OutOfForm = (p ≡ no_position) × ((q : Position) → Embodies v q t → ⊥)

abbrev pub Answers : Edition → List ℕ → Raw → Type 0
Answers v t r = AnswersBy v t r.position r.form
