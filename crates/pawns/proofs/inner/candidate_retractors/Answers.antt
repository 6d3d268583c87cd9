-- `pawns::inner::candidate_retractors` meets its contract.
use borrow.Author.Tests.{le-leb, lt-leb}
use Rattle.squares.specs.Tests.{◌and◌}
use Rattle.pawns.specs.Pawns.{candidate_retractors}
use Rattle.pawns.proofs.inner.candidate_retractors.Goals as goal

pub returns-then-n-checking : goal.returns-then-n-checking
unfolding candidate_retractors ◌and◌
returns-then-n-checking c = rw (c.get_rank-last.ensures, c.own_rank.ensures, rw (c.get_rank-last.ensures, c.own_rank.ensures) at c.if-n-checking.true)

pub returns-then-n-le1 : goal.returns-then-n-le1
unfolding candidate_retractors ◌and◌
returns-then-n-le1 c = rw (c.bit-king.ensures, c.get_rank-last.ensures, c.own_rank.ensures, rw (c.get_rank-last.ensures, c.own_rank.ensures) at c.if-n-checking.false, le-leb _ _ c.if-n-le1.true)

pub returns : goal.returns
unfolding candidate_retractors ◌and◌
returns c = rw (rw (c.get_rank-last.ensures, c.own_rank.ensures) at c.if-n-checking.false, lt-leb _ _ c.if-n-le1.false)
