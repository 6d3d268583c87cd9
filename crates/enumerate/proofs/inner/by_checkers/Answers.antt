-- `enumerate::inner::by_checkers` meets its contract.
use borrow.Author.Tests.{lt-ltb, le-ltb}
use Rattle.retraction_list.specs.inner.Pushing.{pushed_all}
use Rattle.enumerate.specs.Lists.{by_checkers}
use Rattle.enumerate.proofs.inner.by_checkers.Goals as goal

pub returns-then-n-gt2 : goal.returns-then-n-gt2
unfolding by_checkers pushed_all
returns-then-n-gt2 c = rw (c.empty.ensures, lt-ltb 2 c.args.n c.if-n-gt2.true)

pub returns : goal.returns
unfolding by_checkers
returns c = rw (le-ltb 2 c.args.n c.if-n-gt2.false) c.kinds.ensures
