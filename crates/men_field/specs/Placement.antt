-- The first field of a text: "men from rank 8 down", as the Rust's Display writes them; and how a square is named.
use Rattle.std.specs.Prelude.{List, [], ◌∷◌, ◌++◌, ℕ, zero, suc, ◌+◌, ◌*◌}
use Rattle.squares.specs.Squares.{file, rank}
use Rattle.geometry.specs.declared.Color.{Color}
use Rattle.geometry.specs.declared.Color.TheVariants.{White, Black}
use Rattle.laws.specs.declared.Piece.{Piece}
use Rattle.laws.specs.declared.Piece.TheVariants.{Pawn, Knight, Bishop, Rook, Queen, King}
use Rattle.laws.specs.Men.{Man, empty, man, Men}

-- the Rust's `piece.to_string(color)`: P N B R Q K, small letters for Black
abbrev pub kind_letter : Piece → ℕ
kind_letter Pawn = 80
kind_letter Knight = 78
kind_letter Bishop = 66
kind_letter Rook = 82
kind_letter Queen = 81
kind_letter King = 75

abbrev pub letter_of : Color → Piece → ℕ
letter_of White k = kind_letter k
letter_of Black k = 32 + kind_letter k

-- a square's file letter and rank digit
abbrev pub square_name : ℕ → List ℕ
square_name s = (97 + file s) ∷ (49 + rank s) ∷ []

-- the Rust's `if count != 0 { write!(f, "{}", count)? }`: the digit of n empty squares before the bytes t, nothing where n is 0
abbrev pub flush_of : ℕ → List ℕ → List ℕ
flush_of zero t = t
flush_of (suc n) t = (48 + suc n) ∷ t

-- "digits 1 to 8, no two digits side by side": n empty squares, and then the squares of the list
unfoldable pub run_text : ℕ → List Man → List ℕ
run_text n [] = flush_of n []
run_text n (empty ∷ xs) = run_text (suc n) xs
run_text n (man c k ∷ xs) = flush_of n (letter_of c k ∷ run_text 0 xs)

-- what stands on n squares from i on
unfoldable pub squares_from : Men → ℕ → ℕ → List Man
squares_from m zero i = []
squares_from m (suc n) i = m i ∷ squares_from m n (suc i)

-- "A rank is eight squares": the rank r, from file a
abbrev pub rank_text : Men → ℕ → List ℕ
rank_text m r = run_text 0 (squares_from m 8 (8 * r))

-- "from rank 8 down": the r lowest ranks, each after a slash
unfoldable pub ranks_text : Men → ℕ → List ℕ
ranks_text m zero = []
ranks_text m (suc r) = 47 ∷ rank_text m r ++ ranks_text m r

unfoldable pub men_text : Men → List ℕ
men_text m = rank_text m 7 ++ ranks_text m 7

-- what the code has for a square: its letter, 0 where it is empty
abbrev pub byte_of : Man → ℕ
byte_of empty = 0
byte_of (man c k) = letter_of c k
