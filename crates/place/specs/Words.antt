-- A board in the words of a place of the study table (docs/STUDY_TABLE.md), and back.
use Rattle.std.specs.Prelude.{cond, List, [], ◌∷◌, ℕ, zero, suc, ◌+◌, ◌-◌, eqb, ltb, get_or}
use Rattle.geometry.specs.declared.Color.{Color}
use Rattle.geometry.specs.declared.Color.TheVariants.{White, Black}
use Rattle.laws.specs.declared.CastleRights.{CastleRights}
use Rattle.laws.specs.declared.CastleRights.TheVariants.{NoRights, KingSide, QueenSide, Both}
use Rattle.laws.specs.declared.EnPassantFlag.{EnPassantFlag}
use Rattle.laws.specs.declared.EnPassantFlag.TheVariants.{Any, Some, None}
use Rattle.laws.specs.declared.Edition.{Edition}
use Rattle.laws.specs.declared.Edition.TheVariants.{A, B}
use Rattle.laws.specs.Positions.{terms_of}
use Rattle.board.specs.declared.RetractableBoard.{RetractableBoard}

-- how many words a place has
abbrev pub place_words : ℕ
place_words = 16

-- the mark of a place that holds a board says the board's edition; 0 is the mark of a free place
abbrev pub mark_word : Edition → ℕ
mark_word A = 1
mark_word B = 2

-- a mark that no put writes is read as edition A
abbrev pub edition_read : ℕ → Edition
edition_read w = cond (eqb w 2) B A

-- words of the other enums, and back: any word is read as some value
abbrev pub color_word : Color → ℕ
color_word White = 0
color_word Black = 1

abbrev pub color_read : ℕ → Color
color_read w = cond (eqb w 0) White Black

abbrev pub rights_word : CastleRights → ℕ
rights_word NoRights = 0
rights_word KingSide = 1
rights_word QueenSide = 2
rights_word Both = 3

abbrev pub rights_read : ℕ → CastleRights
rights_read w = cond (eqb w 0) NoRights (cond (eqb w 1) KingSide (cond (eqb w 2) QueenSide Both))

abbrev pub state_word : EnPassantFlag → ℕ
state_word Any = 0
state_word None = 1
state_word (Some q) = q + 2

-- a word that is no state's is read as square 255, which 5 refuses
abbrev pub state_read : ℕ → EnPassantFlag
state_read w = cond (eqb w 0) Any (cond (eqb w 1) None (cond (ltb w 258) (Some (w - 2)) (Some 255)))

-- a place that holds a board: its mark, six sets by kind, two by colour, the union, the turn, White's rights, Black's, pins, checkers, state
unfoldable pub words_of : RetractableBoard → List ℕ
words_of b =
    mark_word b.terms.edition ∷ get_or b.pieces 0 0 ∷ get_or b.pieces 1 0 ∷ get_or b.pieces 2 0 ∷ get_or b.pieces 3 0 ∷ get_or b.pieces 4 0 ∷ get_or b.pieces 5 0
    ∷ get_or b.colors 0 0 ∷ get_or b.colors 1 0 ∷ b.combined ∷ color_word b.turn ∷ rights_word b.white ∷ rights_word b.black
    ∷ b.pinned ∷ b.checkers ∷ state_word b.passant ∷ []

unfoldable pub board_read : List ℕ → RetractableBoard
board_read ws = record {
  pieces = get_or ws 1 0 ∷ get_or ws 2 0 ∷ get_or ws 3 0 ∷ get_or ws 4 0 ∷ get_or ws 5 0 ∷ get_or ws 6 0 ∷ [];
  colors = get_or ws 7 0 ∷ get_or ws 8 0 ∷ [];
  combined = get_or ws 9 0;
  turn = color_read (get_or ws 10 0);
  white = rights_read (get_or ws 11 0);
  black = rights_read (get_or ws 12 0);
  pinned = get_or ws 13 0;
  checkers = get_or ws 14 0;
  passant = state_read (get_or ws 15 0);
  terms = terms_of (edition_read (get_or ws 0 0));
}

-- n words from the k-th on
abbrev pub words_at : List ℕ → ℕ → ℕ → List ℕ
words_at s k zero = []
words_at s k (suc n) = get_or s k 0 ∷ words_at s (suc k) n
