-- Souls counted on the sets of one side's men by kind: the `souls` of the Laws by `Counted.souls-are`.
use Rattle.std.specs.Prelude.{not, List, ℕ, ◌+◌, ◌-◌}
use Rattle.std.specs.Int.Bits.{bit_and}
use Rattle.squares.specs.Squares.{set_of, size}
use Rattle.laws.specs.declared.Piece.TheVariants.{Pawn, Knight, Bishop, Rook, Queen}
use Rattle.laws.specs.Souls.{dark}
use Rattle.laws.specs.Boards.{kind_set}

-- `LIGHT_SQUARES` and `DARK_SQUARES` ("a1 is dark")
unfoldable pub light_squares : ℕ
light_squares = set_of (λ k. not (dark k))

unfoldable pub dark_squares : ℕ
dark_squares = set_of dark

-- `max(0, s.popcnt() as i32 - m)`: a difference is 0 where it would fall below
abbrev pub beyond_of : ℕ → ℕ → ℕ
beyond_of s m = size s - m

-- `lower_bound_nb_pawn_souls` (retraction_gen.rs, 124 to 130)
unfoldable pub souls_of : List ℕ → ℕ
souls_of f =
    size (kind_set f Pawn)
    + (beyond_of (kind_set f Knight) 2 + beyond_of (bit_and (kind_set f Bishop) light_squares) 1 + beyond_of (bit_and (kind_set f Bishop) dark_squares) 1
    + beyond_of (kind_set f Rook) 2 + beyond_of (kind_set f Queen) 1)
