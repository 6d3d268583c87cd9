-- `tables::inner::is_clear` meets its contract.
use Rattle.tables.proofs.Paths.{clear_is}
use Rattle.tables.proofs.inner.is_clear.Goals as goal

pub returns : goal.returns
returns c = rw c.between.ensures (clear_is c.args.occ c.args.a c.args.b)
