-- The state in a record: "en passant is the square passed over". A position has the pawn's own square.
use Rattle.std.specs.Prelude.{◌≡◌, Bool, true, false, cond, ◌⊎◌, ℕ, ◌+◌, ◌≤◌, ◌<◌, ltb}
use Rattle.squares.specs.Squares.{file, rank}
use Rattle.laws.specs.declared.EnPassantFlag.{EnPassantFlag}
use Rattle.laws.specs.declared.EnPassantFlag.TheVariants.{Any, Some, None}

-- "the square passed over" by the pawn on s, on its file: on rank 3 behind one on rank 4, on rank 6 behind one on rank 5
abbrev pub passed_of : ℕ → ℕ
passed_of s = cond (ltb s 32) 16 40 + file s

abbrev pub passed_state : EnPassantFlag → EnPassantFlag
passed_state Any = Any
passed_state (Some s) = Some (passed_of s)
passed_state None = None

-- "a passed-over square off ranks 3 and 6, or `?`, is 14": of the pawn's own square, none, or a pawn on rank 4 or 5
abbrev pub StateNamed : EnPassantFlag → Type 0
StateNamed Any = ⊥
StateNamed (Some s) = (24 ≤ s) × (s < 40)
StateNamed None = Unit {0}

-- and of the square passed over: `-`, or a square of rank 3 or 6, which are the ranks 2 and 5 from 0
abbrev pub PassedOver : EnPassantFlag → Type 0
PassedOver Any = ⊥
PassedOver (Some q) = (rank q ≡ 2) ⊎ (rank q ≡ 5)
PassedOver None = Unit {0}

-- "16 UNKNOWN when the writer .. meets an unknown state"
abbrev pub is_known : EnPassantFlag → Bool
is_known Any = false
is_known (Some s) = true
is_known None = true
