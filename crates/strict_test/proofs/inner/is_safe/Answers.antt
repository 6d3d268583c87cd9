-- `strict_test::inner::is_safe` meets its contract.
use Rattle.strict_test.specs.inner.Strictly.{safe_for}
use Rattle.strict_test.proofs.inner.is_safe.Goals as goal

pub returns-in-Plain : goal.returns-in-Plain
unfolding safe_for
returns-in-Plain c = rw c.in-Plain.is

pub returns-in-Passant : goal.returns-in-Passant
unfolding safe_for
returns-in-Passant c = rw c.in-Passant.is

pub returns-in-Castle : goal.returns-in-Castle
unfolding safe_for
returns-in-Castle c = rw c.in-Castle.is c.unattacked.ensures
