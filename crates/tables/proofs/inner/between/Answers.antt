-- `tables::inner::between` meets its contract.
use Rattle.tables.proofs.inner.between.Goals as goal

pub returns : goal.returns
returns c = c.requires.0.entry c.args.a c.args.b c.requires.1 c.requires.2
