-- The form of a record: "six-field FEN records from the PGN standard: en passant is the square passed over, and two counters follow". What the
-- writer writes is the form, and the reader inverts it.
use Rattle.std.specs.Prelude.{◌≡◌, List, ◌∷◌, ◌++◌, ℕ}
use Rattle.laws.specs.declared.Edition.{Edition}
use Rattle.laws.specs.declared.Position.{Position}
use Rattle.laws.specs.Positions.{terms_of}
use Rattle.laws.specs.Boards.{men_in, Clean}
use Rattle.position_text.specs.Form.{print_of}
use Rattle.rows.specs.Rows.{decimal_of}
use Rattle.record_fields.specs.Passed.{passed_state, StateNamed}

-- "two counters follow", "digits without leading zeros", each after a space
abbrev pub counters_text : ℕ → ℕ → List ℕ
counters_text h n = 32 ∷ decimal_of h ++ (32 ∷ decimal_of n)

-- the six fields: the four of a text, but with the square passed over for the pawn's own, and the counters
abbrev pub record_of : Position → ℕ → ℕ → List ℕ
record_of f h n = print_of (men_in f) f.turn f.white f.black (passed_state f.passant) ++ counters_text h n

-- the text t says the position f in the edition v, which the text does not name, and the counters h and n, whatever their size; the state
-- of f is the pawn's own square
pub record Says (v : Edition) (f : Position) (h n : ℕ) (t : List ℕ) : Type 0 where
  pub edition : f.terms ≡ terms_of v
  pub clean : Clean f.pieces f.colors
  pub state : StateNamed f.passant
  pub text : record_of f h n ≡ t
