use borrow.Author.Tests.{ne_eqb}
use Rattle.volume_contents.proofs.inner.edition_of.Goals as goal

-- src/inner.rt:32:9
pub returns-then-b-eq66 : goal.returns-then-b-eq66
returns-then-b-eq66 c = rw c.if-b-eq66.true

-- src/inner.rt:28:1
pub returns : goal.returns
returns c = rw (ne_eqb _ _ c.if-b-eq66.false)
