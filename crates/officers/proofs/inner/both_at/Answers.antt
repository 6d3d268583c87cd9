-- `officers::inner::both_at` meets its contract.
use Rattle.squares.specs.Tests.{◌and◌}
use Rattle.officers.specs.Officers.{both_at}
use Rattle.officers.proofs.inner.both_at.Goals as goal

pub returns : goal.returns
unfolding both_at ◌and◌
returns c = rw (c.offer.ensures, c.capture_kind-k.ensures, c.has-p.ensures, c.quiet-q.ensures, c.steps-m.ensures, c.between-ray.ensures)
