-- `strict_test::inner::agrees` meets its contract.
use mathlib.Core.Path.{◌∙◌}
use Rattle.strict_test.specs.inner.Strictly.{agrees_for}
use Rattle.strict_test.proofs.Earlier.{agrees_named, agrees_none}
use Rattle.strict_test.proofs.inner.agrees.Goals as goal

pub returns-in-Any : goal.returns-in-Any
unfolding agrees_for
returns-in-Any c = rw c.in-Any.is

pub returns-in-Some : goal.returns-in-Some
returns-in-Some c = rw c.in-Some.is (c.is_named.ensures ∙ agrees_named _ _)

pub returns-in-None : goal.returns-in-None
returns-in-None c = rw c.in-None.is (c.is_none.ensures ∙ agrees_none _)
