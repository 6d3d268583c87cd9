-- `enumerate::inner::listed` meets its contract.
use Rattle.enumerate.specs.Lists.{list_of}
use Rattle.enumerate.proofs.inner.listed.Goals as goal

pub returns-in-Any : goal.returns-in-Any
unfolding list_of
returns-in-Any c = rw (c.by_checkers.ensures, c.count-n.ensures, c.in-Any.is)

pub returns-in-Some : goal.returns-in-Some
unfolding list_of
returns-in-Some c = rw (c.named.ensures, c.in-Some.is)

pub returns-in-None : goal.returns-in-None
unfolding list_of
returns-in-None c = rw (c.by_checkers-in-None.ensures, c.count-n.ensures, c.in-None.is)
