-- `kings::inner::uncastled` meets its contract.
use Rattle.squares.specs.Tests.{◌or◌}
use Rattle.retraction_list.specs.inner.Pushing.{pushed_all}
use Rattle.kings.specs.Kings.{uncastled_of}
use Rattle.kings.proofs.inner.uncastled.Goals as goal

pub returns-then-a-b : goal.returns-then-a-b
unfolding uncastled_of ◌or◌
returns-then-a-b c = rw (c.put.ensures, c.bit-e.ensures, c.king_home.ensures.0, ← c.long-b.ensures, ← c.short-a.ensures, c.if-a-b.true)

pub returns : goal.returns
unfolding uncastled_of pushed_all ◌or◌
returns c = rw (← c.long-b.ensures, ← c.short-a.ensures, c.if-a-b.false)
