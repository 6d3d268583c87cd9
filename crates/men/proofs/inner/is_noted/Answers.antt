-- `men::inner::is_noted` meets its contract.
use borrow.Author.Rules.{rules}
use Rattle.men.specs.inner.Standing.{beside_of, noted_of}
use Rattle.men.proofs.inner.is_noted.Goals as goal

pub returns-in-A : goal.returns-in-A
unfolding beside_of noted_of
returns-in-A c = rw c.in-A.is c.pawn_beside.ensures

pub returns-in-B : goal.returns-in-B
unfolding noted_of
returns-in-B c = search rules
