-- `moves::inner::mark_ok` meets its contract.
use Rattle.squares.specs.Tests.{◌and◌}
use Rattle.moves.proofs.inner.mark_ok.Goals as goal

pub returns-then-mark : goal.returns-then-mark
unfolding ◌and◌
returns-then-mark c = rw (c.if-mark.true, c.is_pawn.ensures, c.rank_for.ensures)

pub returns : goal.returns
unfolding ◌and◌
returns c = rw (c.if-mark.false, c.is_pawn.ensures, c.rank_for.ensures)
