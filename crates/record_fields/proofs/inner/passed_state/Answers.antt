-- `record_fields::inner::passed_state` meets its contract.
use borrow.Author.Tests.{lt-ltb, le-ltb}
use Rattle.record_fields.proofs.inner.passed_state.Goals as goal

pub returns-then-s-lt32 : goal.returns-then-s-lt32
returns-then-s-lt32 c = simp (c.in-Some.is, lt-ltb _ _ c.if-s-lt32.true)

pub returns-else-s-lt32 : goal.returns-else-s-lt32
returns-else-s-lt32 c = simp (c.in-Some.is, le-ltb _ _ c.if-s-lt32.false)
