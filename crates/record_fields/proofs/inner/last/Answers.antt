-- `record_fields::inner::last` meets its contract.
use Rattle.std.proofs.Common.{rules}
use Rattle.record_fields.proofs.Splits.{cut_there, cut_none}
use Rattle.record_fields.proofs.inner.last.Goals as goal

pub returns-in-Some : goal.returns-in-Some
returns-in-Some c = cut_there c.args.t.now c.args.n c.requires c.in-Some.i (search rules) (search rules) (search rules)

pub returns-in-None : goal.returns-in-None
returns-in-None c = cut_none c.args.t.now c.args.n c.requires (search rules)
