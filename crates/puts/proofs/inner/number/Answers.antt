-- `puts::inner::number` meets its contract.
use borrow.Author.Rules.{rules}
use Rattle.puts.proofs.Grown.{grown}
use Rattle.puts.proofs.inner.number.Goals as goal

pub returns : goal.returns
returns c = grown _ _ _ _ _ c.put_decimal.ensures.puts _ c.unwrap_or.ensures (search rules)
