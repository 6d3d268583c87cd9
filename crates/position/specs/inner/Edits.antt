-- The edit of a square, and men by their numbers.
use Rattle.std.specs.Prelude.{Bool, cond, ℕ, zero, suc, ◌%◌, eqb}
use Rattle.squares.specs.Squares.{has, set_of}
use Rattle.geometry.specs.declared.Color.{Color}
use Rattle.geometry.specs.declared.Color.TheVariants.{White, Black}
use Rattle.laws.specs.declared.Piece.TheVariants.{King}
use Rattle.laws.specs.declared.Position.{Position}
use Rattle.laws.specs.Men.{Man, man, Men, numbered}
use Rattle.laws.specs.Boards.{kind_sets, color_sets}

-- the same position with the men m: "six sets of squares by kind and two by colour", all else kept
unfoldable pub with_men : Position → Men → Position
with_men p m = record { pieces = kind_sets m; colors = color_sets m; turn = p.turn; white = p.white; black = p.black; passant = p.passant; terms = p.terms }

-- the set with the square s in or out
unfoldable pub edit : ℕ → ℕ → Bool → ℕ
edit set s on = set_of (λ k. cond (eqb k s) on (has set k))

-- the man of a colour by its kind's number: 0 nothing, 1 P to 5 Q as a retraction's uncaptured man, 6 K
abbrev pub man_with : Color → ℕ → Man
man_with c zero = numbered c 0
man_with c (suc zero) = numbered c 1
man_with c (suc (suc zero)) = numbered c 2
man_with c (suc (suc (suc zero))) = numbered c 3
man_with c (suc (suc (suc (suc zero)))) = numbered c 4
man_with c (suc (suc (suc (suc (suc zero))))) = numbered c 5
man_with c (suc (suc (suc (suc (suc (suc n)))))) = man c King

-- the colour of the man numbered n
abbrev pub color_by : ℕ → Color
color_by n = cond (eqb (n % 2) 0) White Black
