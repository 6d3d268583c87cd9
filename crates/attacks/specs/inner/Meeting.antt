-- The set that `met` makes.
use Rattle.std.specs.Prelude.{List, ℕ}
use Rattle.std.specs.Int.Bits.{bit_and, bit_or}
use Rattle.laws.specs.declared.Piece.TheVariants.{Pawn, Knight, Bishop, Rook, Queen, King}
use Rattle.laws.specs.Boards.{kind_set}

-- the members of `own` that are pawns on `pawn`, knights on `knight`, bishops or queens on `diagonal`, rooks or queens on `straight`,
-- kings on `king`
unfoldable pub met_of : List ℕ → (own pawn knight diagonal straight king : ℕ) → ℕ
met_of pieces own pawn knight diagonal straight king =
    bit_and own
    (bit_or
    (bit_or
    (bit_or (bit_or (bit_and (kind_set pieces Pawn) pawn) (bit_and (kind_set pieces Knight) knight)) (bit_and (bit_or (kind_set pieces Bishop) (kind_set pieces Queen)) diagonal))
    (bit_and (bit_or (kind_set pieces Rook) (kind_set pieces Queen)) straight))
    (bit_and (kind_set pieces King) king))
