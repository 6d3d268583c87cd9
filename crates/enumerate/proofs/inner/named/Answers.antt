-- `enumerate::inner::named` meets its contract.
use Rattle.enumerate.specs.Lists.{named_of}
use Rattle.enumerate.proofs.inner.named.Goals as goal

pub returns : goal.returns
unfolding named_of
returns c = rw (c.put.ensures, c.empty-none.ensures, c.get_rank-second.ensures, c.own_rank.ensures, c.get_file-file.ensures)
