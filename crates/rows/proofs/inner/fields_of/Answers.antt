-- `rows::inner::fields_of` meets its contract.
use Rattle.rows.proofs.Rows.{fields_is}
use Rattle.rows.proofs.inner.fields_of.Goals as goal

pub returns : goal.returns
returns c = fields_is _ _ c.args.r c.uncaptured_letter-letter.ensures c.mark-mark.ensures
