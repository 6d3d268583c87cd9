-- `words::inner::put` meets its contract.
use Rattle.output.proofs.Added.{used_adds}
use Rattle.words.proofs.inner.put.Goals as goal

pub returns : goal.returns
returns c = used_adds _ _ _ _ _ c.put_bytes.ensures _ c.unwrap_or.ensures
