-- The refusals 2 to 6 of a position, each as the test that passes where the number is not given. (1 and 7 are about sets: Boards.)
use Rattle.std.specs.Prelude.{Bool, true, not, ℕ, ◌%◌, eqb, ltb}
use Rattle.squares.specs.Tests.{◌and◌, ◌or◌}
use Rattle.squares.specs.Squares.{rank, every_square, some_square}
use Rattle.geometry.specs.declared.Color.{Color}
use Rattle.geometry.specs.declared.Color.TheVariants.{White, Black}
use Rattle.geometry.specs.Colors.{opp, rank_for, behind}
use Rattle.geometry.specs.Lines.{files}
use Rattle.laws.specs.declared.Piece.TheVariants.{Pawn, Rook, King}
use Rattle.laws.specs.declared.EnPassantFlag.{EnPassantFlag}
use Rattle.laws.specs.declared.Edition.{Edition}
use Rattle.laws.specs.declared.Edition.TheVariants.{A, B}
use Rattle.laws.specs.declared.EnPassantFlag.TheVariants.{Any, Some, None}
use Rattle.laws.specs.Men.{Man, man, Men, same_man, is_empty, is_pawn}
use Rattle.laws.specs.Attacks.{attacked}
use Rattle.laws.specs.Souls.{number}
use Rattle.laws.specs.declared.Side.{Side}
use Rattle.laws.specs.declared.Side.TheVariants.{Short as short, Long as long}
use Rattle.laws.specs.Positions.{Rights, Pos, king_home, corner}

-- 2 KINGS: "a colour has no king or more than one"
abbrev pub kings_ok : Men → Bool
kings_ok m = eqb (number m White King) 1 and eqb (number m Black King) 1

-- rank 1 or 8
abbrev pub edge : ℕ → Bool
edge k = eqb (rank k % 7) 0

-- 3 PAWN: "a pawn stands on rank 1 or 8"
abbrev pub pawns_ok : Men → Bool
pawns_ok m = every_square (λ k. not (is_pawn (m k) and edge k))

-- 4 RIGHTS: "a right is held without king on e and rook on its corner, home rank"
abbrev pub right_ok : Men → Rights → Color → Side → Bool
right_ok m ρ c d = not (ρ c d) or (same_man (m (king_home c)) (man c King) and same_man (m (corner c d)) (man c Rook))

abbrev pub rights_ok : Men → Rights → Bool
rights_ok m ρ = right_ok m ρ White short and right_ok m ρ White long and right_ok m ρ Black short and right_ok m ρ Black long

-- a man x stands beside the square q, on its rank
abbrev pub beside : Men → Man → ℕ → Bool
beside m x q = some_square (λ k. same_man (m k) x and eqb (rank k) (rank q) and eqb (files k q) 1)

-- an edition asks of a double step to q, c being to move then: in A a pawn of c beside it, in B nothing
abbrev pub noted : Edition → Men → Color → ℕ → Bool
noted A m c q = beside m (man c Pawn) q
noted B m c q = true

-- 5 PASSANT, c to move: "a square is named that is above 63, or isn't a pawn of the retractor on the retractor's fourth rank with both
-- squares behind it empty and a pawn of the side to move beside it"; "in B, 5 loses its neighbour clause"
abbrev pub state_ok : Edition → Men → Color → EnPassantFlag → Bool
state_ok v m c Any = true
state_ok v m c None = true
state_ok v m c (Some q) =
    ltb q 64 and same_man (m q) (man (opp c) Pawn) and eqb (rank_for (opp c) q) 3
    and is_empty (m (behind (opp c) q)) and is_empty (m (behind (opp c) (behind (opp c) q))) and noted v m c q

-- 6 CHECK, c to move: "the retractor's king is attacked, by the other king included"
abbrev pub quiet : Men → Color → Bool
quiet m c = every_square (λ k. not (same_man (m k) (man (opp c) King) and attacked m c k))

-- 2 to 6
abbrev pub accepted : Pos → Bool
accepted p =
    kings_ok p.men and pawns_ok p.men and rights_ok p.men p.rights and state_ok p.terms.edition p.men p.turn p.state
    and quiet p.men p.turn
