-- `record_fields::inner::pawn_state` meets its contract.
use borrow.Author.Tests.{eq-eqb, ne_eqb}
use Rattle.record_fields.proofs.inner.pawn_state.Goals as goal

pub returns-then-q-eq2 : goal.returns-then-q-eq2
returns-then-q-eq2 c = simp (c.in-Some.is, eq-eqb _ _ c.if-q-eq2.true)

pub returns-then-q-eq5 : goal.returns-then-q-eq5
returns-then-q-eq5 c = simp (c.in-Some.is, ne_eqb _ _ c.if-q-eq2.false, eq-eqb _ _ c.if-q-eq5.true)

pub returns-else-q-eq5 : goal.returns-else-q-eq5
returns-else-q-eq5 c = simp (c.in-Some.is, ne_eqb _ _ c.if-q-eq2.false, ne_eqb _ _ c.if-q-eq5.false)
