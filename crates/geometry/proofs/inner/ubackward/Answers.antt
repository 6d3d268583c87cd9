-- `geometry::inner::ubackward` meets its contract.
use native.Mathlib.Omega.{arith}
use Rattle.geometry.specs.Colors.{back_of}
use Rattle.geometry.proofs.inner.ubackward.Goals as goal

pub returns-in-White : goal.returns-in-White
unfolding back_of
returns-in-White c = (rw c.in-White.is (omega arith), omega arith)

pub returns-in-Black : goal.returns-in-Black
unfolding back_of
returns-in-Black c = (rw c.in-Black.is (omega arith), omega arith)
