-- `officers::inner::calm` meets its contract.
use Rattle.officers.specs.Officers.{calm_of}
use Rattle.officers.proofs.inner.calm.Goals as goal

pub returns : goal.returns
unfolding calm_of
returns c = rw (c.each.ensures, c.free-set.ensures, c.quiet-q.ensures)
