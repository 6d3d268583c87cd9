-- `officers::inner::from` meets its contract.
use Rattle.officers.specs.Officers.{from_of}
use Rattle.officers.proofs.inner.from.Goals as goal

pub returns : goal.returns
unfolding from_of
returns c = rw (c.offer.ensures, c.capture_kind.ensures, c.has-p.ensures, c.steps-m.ensures)
