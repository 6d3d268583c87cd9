-- Kinds by the places of their sets, and by the numbers of uncaptured men.
use mathlib.Core.Path.{◌≡◌, refl}
use Prim.Native.Nat.{ℕ, zero, suc}
use lib.Dec.{eqb}
use Rattle.geometry.specs.declared.Color.{Color}
use Rattle.laws.specs.declared.Piece.{Piece}
use Rattle.laws.specs.declared.Piece.TheVariants.{Pawn, Knight, Bishop, Rook, Queen, King}
use Rattle.laws.specs.Men.{man, kind_place, numbered}
use Rattle.incremental.specs.Moved.{is_piece}

-- a kind by its place among the sets
pub pawn_place : (k : Piece) → eqb (kind_place k) 0 ≡ is_piece Pawn k
pawn_place Pawn = refl
pawn_place Knight = refl
pawn_place Bishop = refl
pawn_place Rook = refl
pawn_place Queen = refl
pawn_place King = refl

pub king_place : (k : Piece) → eqb (kind_place k) 5 ≡ is_piece King k
king_place Pawn = refl
king_place Knight = refl
king_place Bishop = refl
king_place Rook = refl
king_place Queen = refl
king_place King = refl

-- an uncaptured man with a number above 4 is a queen
pub queen_numbered : (c : Color) (k : ℕ) → (k ≡ 0 → ⊥) → (k ≡ 1 → ⊥) → (k ≡ 2 → ⊥) → (k ≡ 3 → ⊥) → (k ≡ 4 → ⊥) → man c Queen ≡ numbered c k
queen_numbered c zero a b d e f = absurd (a refl)
queen_numbered c (suc zero) a b d e f = absurd (b refl)
queen_numbered c (suc (suc zero)) a b d e f = absurd (d refl)
queen_numbered c (suc (suc (suc zero))) a b d e f = absurd (e refl)
queen_numbered c (suc (suc (suc (suc zero)))) a b d e f = absurd (f refl)
queen_numbered c (suc (suc (suc (suc (suc k))))) a b d e f = refl
