-- `geometry::inner::behind` meets its contract.
use mathlib.Core.Path.{refl}
use Prim.Native.Nat.{◌<◌}
use native.Mathlib.Omega.{arith}
use Rattle.geometry.specs.declared.Color.TheVariants.{White, Black}
use Rattle.geometry.specs.Colors.{rank_for}
use Rattle.geometry.proofs.Behind.{behind_in}
use Rattle.geometry.proofs.inner.behind.Goals as goal

pub overflow_sub-result : goal.overflow_sub-result
overflow_sub-result c = let h : 0 < rank_for White c.args.sq = rw c.in-White.is at c.requires.1 in omega arith

pub returns-in-White : goal.returns-in-White
returns-in-White c = let at = behind_in White c.args.sq c.requires.0 (rw c.in-White.is at c.requires.1) in rw c.in-White.is (refl, at.0, at.1)

pub returns-in-Black : goal.returns-in-Black
returns-in-Black c = let at = behind_in Black c.args.sq c.requires.0 (rw c.in-Black.is at c.requires.1) in rw c.in-Black.is (refl, at.0, at.1)
