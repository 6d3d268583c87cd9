-- A board as a diagram in text: from rank 8 down, with the squares of a move marked.
use Rattle.std.specs.Prelude.{cond, List, [], ◌∷◌, ◌++◌, ℕ, ◌+◌, ◌-◌, ◌*◌, eqb}
use Rattle.squares.specs.Members.{concat}
use Rattle.laws.specs.Men.{Man, empty, man}
use Rattle.laws.specs.Boards.{men_at}
use Rattle.board.specs.declared.RetractableBoard.{RetractableBoard}
use Rattle.men_field.specs.Placement.{letter_of}
use Rattle.diagram.specs.declared.Drawing.{Drawing}
use Rattle.words.specs.Words.{bytes}

-- a board with the squares of a move marked; 64 marks none
abbrev pub drawing_of : RetractableBoard → ℕ → ℕ → Drawing
drawing_of b from to = record { pieces = b.pieces; colors = b.colors; from = from; to = to }

-- the letter of a man, a point for none
abbrev pub shown_as : Man → ℕ
shown_as empty = 46
shown_as (man c k) = letter_of c k

-- what stands beside a square: x where the man came from it, y where it went to it, else a space
abbrev pub mark_at : Drawing → ℕ → ℕ → ℕ → ℕ
mark_at d k x y = cond (eqb k d.from) x (cond (eqb k d.to) y 32)

-- `[P]` where the man came from, `(p)` where it went to, ` . ` elsewhere
abbrev pub square_text : Drawing → ℕ → List ℕ
square_text d k = mark_at d k 91 40 ∷ shown_as (men_at d.pieces d.colors k) ∷ mark_at d k 93 41 ∷ []

-- the eight files, and the eight ranks
abbrev pub eight : List ℕ
eight = 0 ∷ 1 ∷ 2 ∷ 3 ∷ 4 ∷ 5 ∷ 6 ∷ 7 ∷ []

abbrev pub squares_text : Drawing → ℕ → List ℕ
squares_text d r = concat (λ f. square_text d (8 * r + f)) eight

-- a rank between its number and the frame
abbrev pub rank_text : Drawing → ℕ → List ℕ
rank_text d r = ((49 + r) ∷ bytes " |") ++ squares_text d r ++ bytes "|\n"

-- "from rank 8 down"
abbrev pub ranks_text : Drawing → List ℕ
ranks_text d = concat (λ i. rank_text d (7 - i)) eight

abbrev pub border : List ℕ
border = bytes "  +------------------------+\n"

abbrev pub files : List ℕ
files = bytes "    a  b  c  d  e  f  g  h\n"

unfoldable pub diagram_of : Drawing → List ℕ
diagram_of d = border ++ ranks_text d ++ border ++ files
