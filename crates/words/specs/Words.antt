-- A retraction in words.
use Rattle.std.specs.Prelude.{Bool, not, cond, List, [], ◌∷◌, ◌++◌, ℕ, zero, suc, ◌+◌, ◌-◌, ◌/◌, eqb, ltb, get_or}
use Prim.Native.Char.{code}
use Prim.Native.String.{String, len, char_at, slice}
use Rattle.squares.specs.Tests.{◌and◌}
use Rattle.squares.specs.Squares.{file}
use Rattle.geometry.specs.declared.Color.{Color}
use Rattle.geometry.specs.declared.Color.TheVariants.{White, Black}
use Rattle.laws.specs.declared.ChessRetraction.{ChessRetraction}
use Rattle.laws.specs.Men.{man_number}
use Rattle.board.specs.declared.RetractableBoard.{RetractableBoard}
use Rattle.board.specs.Gate.{men_on}
use Rattle.rows.specs.Rows.{decimal_of}
use Rattle.men_field.specs.Placement.{square_name}

-- the n first characters of a text, as bytes
unfoldable pub bytes_in : ℕ → String → List ℕ
bytes_in zero s = []
bytes_in (suc n) s = code (char_at s 0) ∷ bytes_in n (slice s 1 (len s))

-- the bytes of a text without accents
abbrev pub bytes : String → List ℕ
bytes s = bytes_in (len s) s

abbrev pub side_name : Color → List ℕ
side_name White = bytes "White"
side_name Black = bytes "Black"

-- the kind with a number: "1 P, 2 N, 3 B, 4 R, 5 Q", and 6 a king
abbrev pub name_of : ℕ → List ℕ
name_of n =
    get_or (bytes "man" ∷ bytes "pawn" ∷ bytes "knight" ∷ bytes "bishop" ∷ bytes "rook" ∷ bytes "queen" ∷ bytes "king" ∷ []) n (bytes "man")

-- the number of the kind on the source today
abbrev pub source_kind : RetractableBoard → ChessRetraction → ℕ
source_kind b r = man_number (men_on b r.source) / 2

-- the kind that moved, k standing on the source today: a pawn before an un-promotion
abbrev pub moved_kind : ℕ → ChessRetraction → ℕ
moved_kind k r = cond r.unpromotion 1 k

abbrev pub way_text : ChessRetraction → List ℕ
way_text r = bytes " from " ++ square_name r.target ++ bytes " to " ++ square_name r.source

-- a pawn that changes its file takes: en passant, where no man is uncaptured on its square
unfoldable pub passes : ℕ → ChessRetraction → Bool
passes k r = eqb k 1 and not (eqb (file r.source) (file r.target))

-- how many files two squares are apart
abbrev pub files_apart : ℕ → ℕ → ℕ
files_apart s t = (file s - file t) + (file t - file s)

-- a king that goes further than to the next file castles
unfoldable pub castles : ℕ → ChessRetraction → Bool
castles k r = eqb k 6 and ltb 1 (files_apart r.source r.target)

-- what the move did besides
abbrev pub deed_text : ℕ → ChessRetraction → List ℕ
deed_text k r =
    cond (ltb 0 r.uncaptured) (bytes ", taking a " ++ name_of r.uncaptured)
    (cond (passes k r) (bytes ", taking en passant") (cond (castles k r) (bytes ", castling") []))

abbrev pub becoming_text : ℕ → ChessRetraction → List ℕ
becoming_text k r = cond r.unpromotion (bytes ", becoming a " ++ name_of k) []

abbrev pub verdict_text : Bool → List ℕ
verdict_text strict = cond strict (bytes ": strict\n") (bytes ": not strict\n")

-- `1. White's pawn`: the number n, the side c that moved, and the man
abbrev pub subject_text : ℕ → Color → ℕ → List ℕ
subject_text n c k = decimal_of n ++ bytes ". " ++ side_name c ++ bytes "'s " ++ name_of k

-- the whole line
unfoldable pub words_of : ℕ → Color → ℕ → ChessRetraction → Bool → List ℕ
words_of n c k r strict = subject_text n c (moved_kind k r) ++ way_text r ++ deed_text k r ++ becoming_text k r ++ verdict_text strict
