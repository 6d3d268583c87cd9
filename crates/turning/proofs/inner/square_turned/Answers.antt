-- `turning::inner::square_turned` meets its contract.
use mathlib.Core.Path.{sym, ◌∙◌}
use Rattle.men.specs.inner.Standing.{beside_of}
use Rattle.turning.specs.inner.Named.{square_turned}
use Rattle.turning.proofs.inner.square_turned.Goals as goal

pub returns-then-pawn_beside : goal.returns-then-pawn_beside
unfolding square_turned beside_of
returns-then-pawn_beside c = rw (sym c.pawn_beside.ensures ∙ c.if-pawn_beside.true)

pub returns : goal.returns
unfolding square_turned beside_of
returns c = rw (sym c.pawn_beside.ensures ∙ c.if-pawn_beside.false)
