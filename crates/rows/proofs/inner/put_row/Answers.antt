-- `rows::inner::put_row` meets its contract.
use Rattle.output.proofs.Added.{used_adds}
use Rattle.output.proofs.Adding.{adds_as}
use Rattle.rows.proofs.inner.put_row.Goals as goal

pub returns : goal.returns
returns c = adds_as _ _ _ _ _ _ (used_adds _ _ _ _ _ c.put_bytes.ensures _ c.unwrap_or.ensures) c.row-bytes.ensures
