-- The pawn's own square from the square passed over, by which the reader turns a state back.
use Rattle.std.specs.Prelude.{cond, ℕ, ◌+◌, ◌-◌, ◌/◌, eqb}
use Rattle.laws.specs.declared.EnPassantFlag.{EnPassantFlag}
use Rattle.laws.specs.declared.EnPassantFlag.TheVariants.{Any, Some, None}

-- the pawn that passed over q, unknown where none did
abbrev pub pawn_of : ℕ → EnPassantFlag
pawn_of q = cond (eqb (q / 8) 2) (Some (q + 8)) (cond (eqb (q / 8) 5) (Some (q - 8)) Any)

abbrev pub pawn_state : EnPassantFlag → EnPassantFlag
pawn_state Any = Any
pawn_state (Some q) = pawn_of q
pawn_state None = None
