-- `un_en_passant::inner::under` meets its contract.
use borrow.Author.Tests.{eq-eqb, ne_eqb}
use Rattle.un_en_passant.specs.UnEnPassants.{under_of}
use Rattle.un_en_passant.proofs.inner.under.Goals as goal

pub returns-then-n-eq1 : goal.returns-then-n-eq1
unfolding under_of
returns-then-n-eq1 c = rw (eq-eqb _ _ c.if-n-eq1.true) c.under_one.ensures

pub returns-then-n-eq2 : goal.returns-then-n-eq2
unfolding under_of
returns-then-n-eq2 c = rw (ne_eqb _ _ c.if-n-eq1.false, eq-eqb _ _ c.if-n-eq2.true) c.under_two.ensures

pub returns : goal.returns
unfolding under_of
returns c = rw (ne_eqb _ _ c.if-n-eq1.false, ne_eqb _ _ c.if-n-eq2.false)
