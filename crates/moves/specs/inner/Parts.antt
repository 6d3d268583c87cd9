-- The parts of the step of 12: the Laws' under names that no function has, shut, as contracts cite them.
use Rattle.std.specs.Prelude.{◌≡◌, Bool, cond, ℕ, ◌<◌}
use Rattle.laws.specs.declared.Side.TheVariants.{Short as short, Long as long}
use Rattle.laws.specs.declared.Way.{Way}
use Rattle.laws.specs.declared.Way.TheVariants.{Plain as plain, Passant as passant, Castle as castling}
use Rattle.laws.specs.declared.Position.{Position}
use Rattle.laws.specs.Men.{Man, Men, man_of}
use Rattle.laws.specs.Positions.{Pos}
use Rattle.laws.specs.Boards.{men_in}
use Rattle.laws.specs.Moves as laws

-- the way by what is known of the man and the squares
abbrev pub way_by : (pawn king cross home near far : Bool) → Way
way_by pawn king cross home near far =
    cond pawn (cond cross passant plain) (cond king (cond home (cond near (castling short) (cond far (castling long) plain)) plain) plain)

-- the Laws' `way`, `moves` and `goes`
unfoldable pub way_for : Man → ℕ → ℕ → ℕ → Way
way_for x t s u = laws.way x t s u

unfoldable pub moves_for : Men → Man → ℕ → ℕ → ℕ → Bool
moves_for m x t s u = laws.moves m x t s u

unfoldable pub goes_for : Pos → Way → ℕ → ℕ → ℕ → Bool
goes_for p w t s u = laws.goes p w t s u

-- x is the number of the man on the square `from`
pub record Stands (p : Position) (x from to : ℕ) : Type 0 where
  pub from_in : from < 64
  pub to_in : to < 64
  pub man_in : x < 14
  pub man_is : man_of x ≡ men_in p from
