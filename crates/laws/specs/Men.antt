-- Men, and what stands on each square.
use Rattle.std.specs.Prelude.{Bool, true, false, cond, [], ◌∷◌, ℕ, zero, suc, ◌+◌, ◌*◌, eqb, get_or}
use Rattle.geometry.specs.declared.Color.{Color}
use Rattle.geometry.specs.declared.Color.TheVariants.{White, Black}
use Rattle.laws.specs.declared.Piece.{Piece}
use Rattle.laws.specs.declared.Piece.TheVariants.{Pawn, Knight, Bishop, Rook, Queen, King}

-- what stands on a square: nothing, or a man of a colour and a kind
pub data Man : Type 0 where
  empty : Man
  man : Color → Piece → Man

-- the men of a board: what stands on each square, nothing on 64 and above
abbrev pub Men : Type 0
Men = ℕ → Man

-- "uncaptured (0 none, 1 P, 2 N, 3 B, 4 R, 5 Q)": the number of a kind; a king's is 6
abbrev pub kind_number : Piece → ℕ
kind_number Pawn = 1
kind_number Knight = 2
kind_number Bishop = 3
kind_number Rook = 4
kind_number Queen = 5
kind_number King = 6

-- the man of the colour c with a number; nothing for 0
abbrev pub numbered : Color → ℕ → Man
numbered c zero = empty
numbered c (suc zero) = man c Pawn
numbered c (suc (suc zero)) = man c Knight
numbered c (suc (suc (suc zero))) = man c Bishop
numbered c (suc (suc (suc (suc zero)))) = man c Rook
numbered c (suc (suc (suc (suc (suc n))))) = man c Queen

-- the place of a colour in an array of two, and of a kind in an array of six
abbrev pub color_place : Color → ℕ
color_place White = 0
color_place Black = 1

abbrev pub kind_place : Piece → ℕ
kind_place Pawn = 0
kind_place Knight = 1
kind_place Bishop = 2
kind_place Rook = 3
kind_place Queen = 4
kind_place King = 5

-- a number for each man, by which two are compared
abbrev pub man_number : Man → ℕ
man_number empty = 0
man_number (man c k) = kind_number k * 2 + color_place c

-- the man with a number
abbrev pub man_of : ℕ → Man
man_of n =
    get_or (empty ∷ empty ∷ man White Pawn ∷ man Black Pawn ∷ man White Knight ∷ man Black Knight ∷ man White Bishop ∷ man Black Bishop
    ∷ man White Rook ∷ man Black Rook ∷ man White Queen ∷ man Black Queen ∷ man White King ∷ man Black King ∷ []) n empty

abbrev pub same_man : Man → Man → Bool
same_man x y = eqb (man_number x) (man_number y)

abbrev pub is_empty : Man → Bool
is_empty empty = true
is_empty (man c k) = false

-- a man of the colour c
abbrev pub is_of : Color → Man → Bool
is_of c empty = false
is_of c (man d k) = eqb (color_place c) (color_place d)

-- a man of the kind k
abbrev pub is_kind : Piece → Man → Bool
is_kind k empty = false
is_kind k (man c j) = eqb (kind_number k) (kind_number j)

abbrev pub is_pawn : Man → Bool
is_pawn x = is_kind Pawn x

-- no man stands on the square k
abbrev pub bare : Men → ℕ → Bool
bare m k = is_empty (m k)

-- the square k holds x, and every other square what it held
abbrev pub put : ℕ → Man → Men → Men
put k x m j = cond (eqb j k) x (m j)
