-- `strict_test::inner::counts` meets its contract.
use mathlib.Core.Path.{ap₂}
use mathlib.Core.Bool.{◌&&◌}
use Rattle.squares.specs.Tests.{◌and◌}
use Rattle.double_step.specs.inner.Parts.{step_for}
use Rattle.strict_test.specs.inner.Strictly.{counts_for}
use Rattle.strict_test.proofs.inner.counts.Goals as goal

pub returns : goal.returns
unfolding counts_for step_for ◌and◌
returns c = ap₂ ◌&&◌ c.few_souls.ensures c.could_step.ensures
