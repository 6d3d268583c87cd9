-- `accept::inner::refusals::bad_rights` meets its contract.
use Rattle.squares.specs.Tests.{◌or◌}
use Rattle.laws.specs.Boards.{men_in, pos_at}
use Rattle.accept.proofs.Judged.{rights_is}
use Rattle.accept.proofs.inner.refusals.bad_rights.Goals as goal

pub returns : goal.returns
unfolding ◌or◌
returns c = rw (c.bad_right-a.ensures, c.bad_right-b.ensures, c.bad_right-c.ensures, c.bad_right-d.ensures) (rights_is (men_in c.args.p) (pos_at c.args.p).rights)
