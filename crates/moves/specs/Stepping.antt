-- 12 forward, as contracts cite it.
use Rattle.std.specs.Prelude.{Bool, ℕ}
use Rattle.laws.specs.declared.ChessRetraction.{ChessRetraction}
use Rattle.laws.specs.Positions.{Pos}
use Rattle.laws.specs.Moves.{possible}

-- the Laws' `possible`, shut
unfoldable pub possible_for : Pos → ChessRetraction → ℕ → Bool
possible_for p r k = possible p r k
