-- `unmake::inner::back::rights_before` meets its contract.
use Rattle.unmake.proofs.inner.back.rights_before.Goals as goal

pub returns : goal.returns
returns c = rw (c.rights_for.ensures, c.regains-short.ensures, c.regains-long.ensures)
