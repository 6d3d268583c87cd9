-- `words::inner::put_number` meets its contract.
use Rattle.rows.proofs.Decimals.{decimal_added}
use Rattle.words.proofs.inner.put_number.Goals as goal

pub returns : goal.returns
returns c = decimal_added _ _ _ _ _ c.ranges.x.fits c.put_decimal.ensures _ c.unwrap_or.ensures
