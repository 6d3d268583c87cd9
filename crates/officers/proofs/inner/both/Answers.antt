-- `officers::inner::both` meets its contract.
use Rattle.squares.specs.Tests.{◌and◌}
use Rattle.retraction_list.specs.inner.Pushing.{pushed_all}
use Rattle.officers.specs.Officers.{both_of}
use Rattle.officers.proofs.inner.both.Goals as goal

pub returns-then-two : goal.returns-then-two
unfolding both_of ◌and◌
returns-then-two c = rw (c.both_at.ensures, c.to_square-other.ensures.0, c.to_square-src.ensures.0, ← c.free-ours.ensures, c.if-two.true)

pub returns : goal.returns
unfolding both_of pushed_all ◌and◌
returns c = rw (← c.free-ours.ensures, c.if-two.false)
