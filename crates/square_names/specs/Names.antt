-- Squares in writing: a name as in document 01's "Text", a set as document 02, request 2, asks for the checkers.
use Rattle.std.specs.Prelude.{List, [], ◌∷◌, ◌++◌, ℕ}
use Rattle.squares.specs.Members.{members, concat}
use Rattle.men_field.specs.Placement.{square_name}

-- "squares ascending with single spaces between, or a dash": of a list of squares, and of a set
abbrev pub spaced_name : ℕ → List ℕ
spaced_name k = 32 ∷ square_name k

abbrev pub square_names : List ℕ → List ℕ
square_names [] = 45 ∷ []
square_names (k ∷ ks) = square_name k ++ concat spaced_name ks

unfoldable pub squares_text : ℕ → List ℕ
squares_text s = square_names (members s)
