-- `moves::inner::way_by` meets its contract.
use Rattle.squares.specs.Tests.{◌and◌}
use Rattle.squares.proofs.Testing.{left, right}
use Rattle.moves.proofs.Steps.{not_home}
use Rattle.moves.proofs.inner.way_by.Goals as goal

pub returns-then-near : goal.returns-then-near
unfolding ◌and◌
returns-then-near c = rw (c.if-pawn.false, left c.args.king c.args.home c.if-king-home.true, right c.args.king c.args.home c.if-king-home.true, c.if-near.true)

pub returns-then-far : goal.returns-then-far
unfolding ◌and◌
returns-then-far c = rw (c.if-pawn.false, left c.args.king c.args.home c.if-king-home.true, right c.args.king c.args.home c.if-king-home.true, c.if-near.false, c.if-far.true)

pub returns-else-far : goal.returns-else-far
unfolding ◌and◌
returns-else-far c = rw (c.if-pawn.false, left c.args.king c.args.home c.if-king-home.true, right c.args.king c.args.home c.if-king-home.true, c.if-near.false, c.if-far.false)

pub returns-else-king-home : goal.returns-else-king-home
returns-else-king-home c = rw c.if-pawn.false (not_home c.args.king c.args.home _ c.if-king-home.false)
