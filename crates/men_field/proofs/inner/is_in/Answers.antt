-- `men_field::inner::is_in` meets its contract.
use borrow.Author.Tests.{le-ltb}
use Rattle.men_field.specs.inner.Letters.{belongs}
use Rattle.squares.specs.Tests.{◌and◌}
use Rattle.men_field.proofs.inner.is_in.Goals as goal

pub returns : goal.returns
unfolding belongs ◌and◌
returns c = simp (le-ltb _ _ c.if-w-lt6.false)
