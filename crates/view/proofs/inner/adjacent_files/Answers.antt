-- `view::inner::adjacent_files` meets its contract.
use Rattle.view.proofs.Adjacent.{adjacent_are}
use Rattle.view.proofs.inner.adjacent_files.Goals as goal

pub returns : goal.returns
returns c = rw (c.left.ensures, c.right.ensures, c.get_file-f.ensures) (adjacent_are c.args.sq c.requires)
