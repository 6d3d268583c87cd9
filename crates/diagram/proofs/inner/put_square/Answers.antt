-- `diagram::inner::put_square` meets its contract.
use Rattle.output.proofs.Adding.{adds_as}
use Rattle.diagram.proofs.inner.put_square.Goals as goal

pub returns : goal.returns
returns c = adds_as _ _ _ _ _ _ c.put.ensures c.square-bytes.ensures
