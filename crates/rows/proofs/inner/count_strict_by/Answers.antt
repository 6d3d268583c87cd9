-- `rows::inner::count_strict_by` meets its contract.
use Rattle.std.proofs.Common.{rules}
use Rattle.rows.proofs.Rows.{strict_size}
use Rattle.rows.proofs.inner.count_strict_by.Goals as goal

pub returns : goal.returns
returns c = search (rules, strict_size c.args.listed.now c.args.strict.now)
