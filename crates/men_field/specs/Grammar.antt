-- A rank in document 01's words, beside what the printer writes: "A rank is eight squares, digits 1 to 8, no two digits side by side".
use Rattle.std.specs.Prelude.{Bool, true, false, not, List, [], ◌∷◌, ℕ, ◌+◌, ◌-◌, eqb, leb}
use Rattle.squares.specs.Tests.{◌and◌, ◌or◌}
use Rattle.laws.specs.declared.Piece.{Piece}
use Rattle.laws.specs.declared.Piece.TheVariants.{Pawn, Knight, Bishop, Rook, Queen, King}
use Rattle.men_field.specs.Placement.{kind_letter}

-- a letter of the kind k, of either colour; a letter of a man
unfoldable pub letter_for : Piece → ℕ → Bool
letter_for k b = eqb b (kind_letter k) or eqb b (32 + kind_letter k)

unfoldable pub is_letter : ℕ → Bool
is_letter b = letter_for Pawn b or letter_for Knight b or letter_for Bishop b or letter_for Rook b or letter_for Queen b or letter_for King b

-- "digits 1 to 8"
unfoldable pub is_digit : ℕ → Bool
is_digit b = leb 49 b and leb b 56

-- the bytes bring n squares to eight, each a letter, or a digit that does not stand beside a digit; `after` says whether one stands before them
unfoldable pub fills : Bool → ℕ → List ℕ → Bool
fills after n [] = eqb n 8
fills after n (b ∷ s) = (is_letter b and fills false (n + 1) s) or (is_digit b and not after and fills true (n + (b - 48)) s)

abbrev pub is_rank : List ℕ → Bool
is_rank s = fills false 0 s
