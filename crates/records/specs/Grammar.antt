-- A record in the request's own words, beside what the writer writes: the four fields of a text, the square passed over, and two counters.
use Rattle.std.specs.Prelude.{◌≡◌, true, List, ◌∷◌, ◌++◌, ℕ}
use Rattle.position_text.specs.Grammar.{Formed as FourFormed}
use Rattle.record_fields.specs.Counters.{is_counter}
use Rattle.record_fields.specs.Passed.{PassedOver}

-- "six-field FEN records": men, turn, rights and a square as in a text, the square being the one passed over, and the two counters behind
-- single spaces; nothing stands before or behind
pub record Formed (t : List ℕ) : Type 0 where
  pub fields : List ℕ
  pub four : FourFormed fields
  pub passed : PassedOver four.passant
  pub half : List ℕ
  pub full : List ℕ
  pub first : is_counter half ≡ true
  pub second : is_counter full ≡ true
  pub text : fields ++ (32 ∷ half ++ (32 ∷ full)) ≡ t
