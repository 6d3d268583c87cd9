-- `uncaptured_candidates` (retraction_gen.rs, 116 to 168): for no man, pawn, knight, bishop, rook and queen, the squares where it may have been
-- uncaptured. `f` are the sets of the men of the side to move by kind, lines 118 to 122.
use Rattle.std.specs.Prelude.{Bool, cond, List, [], ◌∷◌, ℕ, eqb, leb, ltb, replicate}
use Rattle.std.specs.Int.Bits.{bit_and, bit_or}
use Rattle.squares.specs.Tests.{◌and◌}
use Rattle.squares.specs.Squares.{size}
use Rattle.squares.specs.Members.{compl, all_squares}
use Rattle.laws.specs.declared.Piece.TheVariants.{Knight, Bishop, Rook, Queen}
use Rattle.laws.specs.declared.Position.{Position}
use Rattle.laws.specs.Boards.{kind_set, color_set}
use Rattle.geometry.specs.Chess.{rank_set}
use Rattle.view.specs.Views.{within}
use Rattle.souls.specs.Sets.{light_squares, dark_squares, souls_of}

-- `!PROMOTION_RANKS`
unfoldable pub pawn_squares : ℕ
pawn_squares = compl (bit_or (rank_set 0) (rank_set 7))

-- `if s.popcnt() >= m { EMPTY }` under `== 8` (144 to 146, 153 to 158)
unfoldable pub kept_of : Bool → ℕ → ℕ → ℕ
kept_of spent s m = cond (spent and leb m (size s)) 0 all_squares

-- 147 to 152
unfoldable pub bishops_of : ℕ → ℕ
bishops_of s = bit_and (cond (leb 1 (size (bit_and s dark_squares))) light_squares all_squares) (cond (leb 1 (size (bit_and s light_squares))) dark_squares all_squares)

-- the masks (136 to 167) where there are 8 souls, spent, and where there are fewer
unfoldable pub masks_at : List ℕ → Bool → List ℕ
masks_at f spent =
    all_squares
    ∷ cond spent 0 pawn_squares
    ∷ kept_of spent (kind_set f Knight) 2
    ∷ cond spent (bishops_of (kind_set f Bishop)) all_squares
    ∷ kept_of spent (kind_set f Rook) 2
    ∷ kept_of spent (kind_set f Queen) 1
    ∷ []

-- "Above 8, all six masks are empty, no-capture included. At 8, an uncapture that would make 9 is masked"
unfoldable pub masks_for : List ℕ → List ℕ
masks_for f = cond (ltb 8 (souls_of f)) (replicate 6 0) (masks_at f (eqb (souls_of f) 8))

unfoldable pub masks_of : Position → List ℕ
masks_of p = masks_for (within p.pieces (color_set p.colors p.turn))
