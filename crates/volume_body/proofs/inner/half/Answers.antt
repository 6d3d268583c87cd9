-- `volume_body::inner::half` meets its contract.
use borrow.Author.Tests.{eq-eqb, ne_eqb}
use Rattle.volume_body.specs.inner.Reading.{half_of}
use Rattle.volume_body.proofs.inner.half.Goals as goal

pub returns-then-p-eq0 : goal.returns-then-p-eq0
unfolding half_of
returns-then-p-eq0 c = simp (eq-eqb _ _ c.if-p-eq0.true)

pub returns : goal.returns
unfolding half_of
returns c = simp (ne_eqb _ _ c.if-p-eq0.false)
