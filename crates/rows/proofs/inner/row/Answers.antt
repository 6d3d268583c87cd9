-- `rows::inner::row` meets its contract.
use Rattle.rows.proofs.Rows.{row_is}
use Rattle.rows.proofs.inner.row.Goals as goal

pub returns : goal.returns
returns c = row_is c.args.slot c.args.sign _ _ c.unpack.ensures c.fields_of-f.ensures
