-- The form of a text: "Four fields with single spaces, as the Rust prints". What the printer writes is the form, and the reader inverts it.
use Rattle.std.specs.Prelude.{◌≡◌, List, [], ◌∷◌, ◌++◌, ℕ, ◌<◌}
use Rattle.geometry.specs.declared.Color.{Color}
use Rattle.geometry.specs.declared.Color.TheVariants.{White, Black}
use Rattle.laws.specs.declared.CastleRights.{CastleRights}
use Rattle.laws.specs.declared.CastleRights.TheVariants.{NoRights, KingSide, QueenSide, Both}
use Rattle.laws.specs.declared.EnPassantFlag.{EnPassantFlag}
use Rattle.laws.specs.declared.Edition.{Edition}
use Rattle.laws.specs.declared.EnPassantFlag.TheVariants.{Any, Some, None}
use Rattle.laws.specs.declared.Position.{Position}
use Rattle.laws.specs.Men.{Men}
use Rattle.laws.specs.Positions.{terms_of}
use Rattle.laws.specs.Boards.{men_in, Clean}
use Rattle.position.specs.Answers.{no_position}
use Rattle.men_field.specs.Placement.{square_name, men_text}
use Rattle.position_text.specs.declared.Form.{Form}
use Rattle.position_text.specs.declared.Form.TheVariants.{InForm, OutOfForm}
use Rattle.position_text.specs.declared.Raw.{Raw}

-- "`w` or `b`"
abbrev pub turn_byte : Color → ℕ
turn_byte White = 119
turn_byte Black = 98

-- one colour's rights: k is its letter for the king's side, q for the queen's
abbrev pub side_text : ℕ → ℕ → CastleRights → List ℕ
side_text k q NoRights = []
side_text k q KingSide = k ∷ []
side_text k q QueenSide = q ∷ []
side_text k q Both = k ∷ q ∷ []

abbrev pub or_dash : List ℕ → List ℕ
or_dash [] = 45 ∷ []
or_dash (b ∷ t) = b ∷ t

-- "rights in the order KQkq or `-`"
abbrev pub rights_text : CastleRights → CastleRights → List ℕ
rights_text w b = or_dash (side_text 75 81 w ++ side_text 107 113 b)

-- "then the pawn's square, `-` for none, `?` for unknown"; "the square is any from a1 to h8"
abbrev pub state_text : EnPassantFlag → List ℕ
state_text Any = 63 ∷ []
state_text (Some s) = square_name s
state_text None = 45 ∷ []

-- the three fields after the men, each after a space
abbrev pub tail_text : Color → CastleRights → CastleRights → EnPassantFlag → List ℕ
tail_text c w b e = 32 ∷ turn_byte c ∷ 32 ∷ rights_text w b ++ (32 ∷ state_text e)

-- "Four fields with single spaces, as the Rust prints: men from rank 8 down" and the three above
unfoldable pub print_of : Men → Color → CastleRights → CastleRights → EnPassantFlag → List ℕ
print_of m c w b e = men_text m ++ tail_text c w b e

-- the text of a position's fields
abbrev pub printed : Position → List ℕ
printed p = print_of (men_in p) p.turn p.white p.black p.passant

-- "the square is any from a1 to h8": a square that is named is one of the board
abbrev pub StateFits : EnPassantFlag → Type 0
StateFits Any = Unit {0}
StateFits (Some s) = s < 64
StateFits None = Unit {0}

-- the text t says f in the edition v, which the text does not name: its men are clean, a square that it names is of the board, and the
-- printer writes t of them
pub record Says (v : Edition) (f : Position) (t : List ℕ) : Type 0 where
  pub edition : f.terms ≡ terms_of v
  pub clean : Clean f.pieces f.colors
  pub square : StateFits f.passant
  pub text : printed f ≡ t

-- "14 TEXT: the text hasn't the form under Text": in form exactly when the text says the position, out of form exactly when it says none
abbrev pub AnswersBy : Edition → List ℕ → Position → Form → Type 0
AnswersBy v t f InForm = Says v f t
AnswersBy v t f OutOfForm = (f ≡ no_position) × ((g : Position) → Says v g t → ⊥)

abbrev pub Answers : Edition → List ℕ → Raw → Type 0
Answers v t r = AnswersBy v t r.position r.form
