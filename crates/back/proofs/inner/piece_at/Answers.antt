-- `back::inner::piece_at` meets its contract.
use mathlib.Core.Path.{◌∙◌, sym}
use Rattle.incremental.specs.Moved.{piece_on}
use Rattle.back.proofs.inner.piece_at.Goals as goal

pub returns-then-has-2 : goal.returns-then-has-2
unfolding piece_on
returns-then-has-2 c = rw (sym c.has.ensures ∙ c.if-has.true, sym c.has-then-has.ensures ∙ c.if-has-2.true)

pub returns-then-has-3 : goal.returns-then-has-3
unfolding piece_on
returns-then-has-3 c = rw (sym c.has.ensures ∙ c.if-has.true, sym c.has-then-has.ensures ∙ c.if-has-2.false, sym c.has-then-has-2.ensures ∙ c.if-has-3.true)

pub returns-then-has : goal.returns-then-has
unfolding piece_on
returns-then-has c = rw (sym c.has.ensures ∙ c.if-has.true, sym c.has-then-has.ensures ∙ c.if-has-2.false, sym c.has-then-has-2.ensures ∙ c.if-has-3.false)

pub returns-then-has-4 : goal.returns-then-has-4
unfolding piece_on
returns-then-has-4 c = rw (sym c.has.ensures ∙ c.if-has.false, sym c.has-2.ensures ∙ c.if-has-4.true)

pub returns-then-has-5 : goal.returns-then-has-5
unfolding piece_on
returns-then-has-5 c = rw (sym c.has.ensures ∙ c.if-has.false, sym c.has-2.ensures ∙ c.if-has-4.false, sym c.has-3.ensures ∙ c.if-has-5.true)

pub returns : goal.returns
unfolding piece_on
returns c = rw (sym c.has.ensures ∙ c.if-has.false, sym c.has-2.ensures ∙ c.if-has-4.false, sym c.has-3.ensures ∙ c.if-has-5.false)
