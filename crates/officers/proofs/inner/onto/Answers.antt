-- `officers::inner::onto` meets its contract.
use Rattle.squares.specs.Tests.{◌and◌}
use Rattle.retraction_list.specs.inner.Pushing.{pushed_all}
use Rattle.officers.specs.Officers.{onto_of}
use Rattle.officers.proofs.inner.onto.Goals as goal

pub returns-then-other : goal.returns-then-other
unfolding onto_of ◌and◌
returns-then-other c = rw (c.each.ensures, c.free-set.ensures, c.choose-allowed.ensures, c.quiet-q.ensures, c.between-ray.ensures, c.to_square-checker.ensures.0, c.if-other.true)

pub returns : goal.returns
unfolding onto_of pushed_all ◌and◌
returns c = rw c.if-other.false
