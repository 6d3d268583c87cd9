-- `strict_test::inner::coming::steps` meets its contract.
use Rattle.squares.specs.Tests.{◌or◌}
use Rattle.strict_test.specs.inner.Coming.{steps_for}
use Rattle.strict_test.proofs.inner.coming.steps.Goals as goal

pub returns : goal.returns
unfolding steps_for ◌or◌
returns c = rw (c.man_moves-quietly.ensures, c.man_moves-taking.ensures)
