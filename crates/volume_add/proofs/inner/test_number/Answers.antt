use borrow.Author.Tests.{lt-ltb, le-ltb}
use Rattle.squares.specs.Tests.{◌and◌}
use Rattle.volume_add.specs.Adding.{number_tested}
use Rattle.volume_add.proofs.inner.test_number.Goals as goal

pub returns-then-last-k : goal.returns-then-last-k
unfolding number_tested ◌and◌
returns-then-last-k c = rw (c.if-k.true, lt-ltb _ _ c.if-last-k.true)

pub returns-then-k : goal.returns-then-k
unfolding number_tested ◌and◌
returns-then-k c = rw (c.if-k.true, le-ltb _ _ c.if-last-k.false)

pub returns : goal.returns
unfolding number_tested ◌and◌
returns c = rw c.if-k.false
