-- What is printed of a board's checkers and of its two lists, document 01's "Text". A member of a list is a 16-bit slot, a packed retraction.
use Rattle.std.specs.Prelude.{Bool, false, cond, List, [], ◌∷◌, ◌++◌, ℕ, zero, suc, ◌/◌, ◌%◌, eqb, ltb, length, get_or}
use Rattle.io.specs.Digits.{hex_digit_ascii}
use Rattle.squares.specs.Tests.{◌or◌}
use Rattle.squares.specs.Members.{concat}
use Rattle.laws.specs.declared.ChessRetraction.{ChessRetraction}
use Rattle.laws.specs.declared.Piece.TheVariants.{Pawn, Knight, Bishop, Rook, Queen}
use Rattle.laws.specs.Retractions.{unpacked}
use Rattle.men_field.specs.Placement.{kind_letter, square_name}
use Rattle.square_names.specs.Names.{squares_text}

-- the digits of x with n steps to find them
unfoldable pub decimal_in : ℕ → ℕ → List ℕ
decimal_in zero x = []
decimal_in (suc n) x = cond (ltb x 10) (hex_digit_ascii x ∷ []) (decimal_in n (x / 10) ++ (hex_digit_ascii (x % 10) ∷ []))

-- a number in decimal, as few digits as hold it; x + 1 steps are enough, as each takes x / 10 for x
abbrev pub decimal_of : ℕ → List ℕ
decimal_of x = decimal_in (suc x) x

-- "uncaptured letter or `.`", of "0 none, 1 P, 2 N, 3 B, 4 R, 5 Q"; `.` beyond
unfoldable pub uncaptured_letter : ℕ → ℕ
uncaptured_letter u = get_or (46 ∷ kind_letter Pawn ∷ kind_letter Knight ∷ kind_letter Bishop ∷ kind_letter Rook ∷ kind_letter Queen ∷ []) u 46

-- "`=` for un-promotion or `.`"
abbrev pub mark_byte : Bool → ℕ
mark_byte b = cond b 61 46

-- "`+` in both, `-` listed only, `*` strict only"
abbrev pub plus : ℕ
plus = 43

abbrev pub minus : ℕ
minus = 45

abbrev pub star : ℕ
star = 42

-- "Fields: source and target; uncaptured letter or `.`; `=` for un-promotion or `.`", with single spaces
abbrev pub fields_by : ChessRetraction → List ℕ
fields_by r = square_name r.source ++ square_name r.target ++ (32 ∷ uncaptured_letter r.uncaptured ∷ 32 ∷ mark_byte r.unpromotion ∷ [])

-- and the sign, to a line
abbrev pub row_by : ChessRetraction → ℕ → List ℕ
row_by r sign = fields_by r ++ (32 ∷ sign ∷ 10 ∷ [])

abbrev pub row_of : ℕ → ℕ → List ℕ
row_of slot sign = row_by (unpacked slot) sign

unfoldable pub is_in : ℕ → List ℕ → Bool
is_in slot [] = false
is_in slot (x ∷ l) = eqb x slot or is_in slot l

-- the row of a listed retraction: "`+` in both, `-` listed only"
abbrev pub listed_row : List ℕ → ℕ → List ℕ
listed_row strict slot = row_of slot (cond (is_in slot strict) plus minus)

-- the row of a strict one: "`*` strict only"; none where it is listed
abbrev pub strict_row : List ℕ → ℕ → List ℕ
strict_row listed slot = cond (is_in slot listed) [] (row_of slot star)

-- "then each listed retraction in list order, then strict ones not listed, in strict order"
abbrev pub rows_of : List ℕ → List ℕ → List ℕ
rows_of listed strict = concat (listed_row strict) listed ++ concat (strict_row listed) strict

-- the bytes of `listed ` and of ` strict `
abbrev pub listed_word : List ℕ
listed_word = 108 ∷ 105 ∷ 115 ∷ 116 ∷ 101 ∷ 100 ∷ 32 ∷ []

abbrev pub strict_word : List ℕ
strict_word = 32 ∷ 115 ∷ 116 ∷ 114 ∷ 105 ∷ 99 ∷ 116 ∷ 32 ∷ []

-- "`listed A strict B`, the numbers of retractions in each"
abbrev pub head_of : ℕ → ℕ → List ℕ
head_of a b = listed_word ++ decimal_of a ++ strict_word ++ decimal_of b ++ (10 ∷ [])

-- "one line under `listed`, the checkers' squares"
abbrev pub checkers_line : ℕ → List ℕ
checkers_line checkers = squares_text checkers ++ (10 ∷ [])

unfoldable pub report_of : ℕ → List ℕ → List ℕ → List ℕ
report_of checkers listed strict = head_of (length listed) (length strict) ++ checkers_line checkers ++ rows_of listed strict
