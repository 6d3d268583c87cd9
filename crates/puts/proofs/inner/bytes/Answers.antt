-- `puts::inner::bytes` meets its contract.
use borrow.Author.Rules.{rules}
use Rattle.puts.proofs.Grown.{grown}
use Rattle.puts.proofs.inner.bytes.Goals as goal

pub returns : goal.returns
returns c = grown _ _ _ _ _ c.put_bytes.ensures _ c.unwrap_or.ensures (search rules)
