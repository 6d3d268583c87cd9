-- The strict list as the strict test has it.
use Rattle.std.specs.Prelude.{◌≡◌, true}
use Rattle.laws.specs.declared.ChessRetraction.{ChessRetraction}
use Rattle.laws.specs.Positions.{Pos}
use Rattle.strict_test.specs.inner.Strictly.{strict_for}

abbrev pub StrictAt : Pos → ChessRetraction → Type 0
StrictAt p r = strict_for p r ≡ true
