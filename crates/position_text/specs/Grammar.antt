-- A text in document 01's words, beside what the printer writes: eight ranks, the turn, the rights and the state.
use Rattle.std.specs.Prelude.{◌≡◌, true, List, [], ◌∷◌, ◌++◌, ℕ, zero, suc, ◌<◌}
use Rattle.geometry.specs.declared.Color.{Color}
use Rattle.laws.specs.declared.CastleRights.{CastleRights}
use Rattle.laws.specs.declared.EnPassantFlag.{EnPassantFlag}
use Rattle.men_field.specs.Grammar.{is_rank}
use Rattle.position_text.specs.Form.{tail_text, StateFits}

-- the r lowest of given ranks, from the highest down, each after a slash
unfoldable pub slashed : (ℕ → List ℕ) → ℕ → List ℕ
slashed s zero = []
slashed s (suc r) = 47 ∷ s r ++ slashed s r

-- "Four fields with single spaces": eight ranks with slashes between them, each "eight squares, digits 1 to 8, no two digits side by side", and the rest
pub record Formed (t : List ℕ) : Type 0 where
  pub ranks : ℕ → List ℕ
  pub formed : (r : ℕ) → r < 8 → is_rank (ranks r) ≡ true
  pub turn : Color
  pub white : CastleRights
  pub black : CastleRights
  pub passant : EnPassantFlag
  pub square : StateFits passant
  pub text : (ranks 7 ++ slashed ranks 7) ++ tail_text turn white black passant ≡ t
