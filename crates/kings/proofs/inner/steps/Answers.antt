-- `kings::inner::steps` meets its contract.
use borrow.Author.Tests.{eq-eqb, ne_eqb}
use Rattle.kings.specs.Kings.{steps_of}
use Rattle.kings.proofs.inner.steps.Goals as goal

pub returns-then-n-eq1 : goal.returns-then-n-eq1
unfolding steps_of
returns-then-n-eq1 c = rw (c.between-ray.ensures, c.to_square-checker.ensures.0, c.get_king_moves-there.ensures, c.get_king_moves-here.ensures, eq-eqb _ _ c.if-n-eq1.true)

pub returns : goal.returns
unfolding steps_of
returns c = rw (c.get_king_moves-there.ensures, c.get_king_moves-here.ensures, ne_eqb _ _ c.if-n-eq1.false)
