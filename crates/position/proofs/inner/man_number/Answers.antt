-- `position::inner::man_number` meets its contract.
use native.Mathlib.Omega.{arith}
use Rattle.geometry.specs.declared.Color.TheVariants.{White, Black}
use Rattle.position.proofs.Editing.{number_with}
use Rattle.position.proofs.inner.man_number.Goals as goal

pub returns-in-White : goal.returns-in-White
returns-in-White c = rw c.in-White.is (omega (arith, number_with White c.args.k c.if-k-eq0.false c.requires), omega arith)

pub returns-in-Black : goal.returns-in-Black
returns-in-Black c = rw c.in-Black.is (number_with Black c.args.k c.if-k-eq0.false c.requires, omega arith)
