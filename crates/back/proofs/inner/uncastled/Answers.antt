-- `back::inner::uncastled` meets its contract.
use mathlib.Core.Path.{◌∙◌, sym}
use borrow.Author.Tests.{ne_eqb}
use Rattle.squares.specs.Squares.{file}
use Rattle.incremental.specs.Moved.{uncastled_of}
use Rattle.back.proofs.inner.uncastled.Goals as goal

pub returns-then-r-eq6 : goal.returns-then-r-eq6
unfolding uncastled_of
returns-then-r-eq6 c = c.rooked.ensures ∙ rw (sym c.is_uncastling.ensures ∙ c.if-is_uncastling.true, c.if-r-eq6.true)

pub returns-then-r-eq2 : goal.returns-then-r-eq2
unfolding uncastled_of
returns-then-r-eq2 c = c.rooked-then-r-eq2.ensures ∙ rw (sym c.is_uncastling.ensures ∙ c.if-is_uncastling.true, ne_eqb (file c.args.r.source) 6 c.if-r-eq6.false, c.if-r-eq2.true)

pub returns-else-r-eq2 : goal.returns-else-r-eq2
unfolding uncastled_of
returns-else-r-eq2 c = rw (sym c.is_uncastling.ensures ∙ c.if-is_uncastling.true, ne_eqb (file c.args.r.source) 6 c.if-r-eq6.false, ne_eqb (file c.args.r.source) 2 c.if-r-eq2.false)

pub returns-else-is_uncastling : goal.returns-else-is_uncastling
unfolding uncastled_of
returns-else-is_uncastling c = rw (sym c.is_uncastling.ensures ∙ c.if-is_uncastling.false)
