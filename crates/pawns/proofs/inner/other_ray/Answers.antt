-- `pawns::inner::other_ray` meets its contract.
use Rattle.squares.specs.Tests.{◌and◌, ◌or◌}
use Rattle.pawns.specs.Pawns.{other_ray_of}
use Rattle.pawns.proofs.inner.other_ray.Goals as goal

pub returns-then-n-checker : goal.returns-then-n-checker
unfolding other_ray_of ◌and◌ ◌or◌
returns-then-n-checker c = rw (rw c.to_square-checker.ensures.0 at c.if-n-checker.true)

pub returns : goal.returns
unfolding other_ray_of ◌and◌ ◌or◌
returns c = rw (c.between.ensures, c.to_square-other.ensures.0, c.bit-own.ensures, rw c.to_square-checker.ensures.0 at c.if-n-checker.false)
