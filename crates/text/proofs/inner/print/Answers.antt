-- `text::inner::print` meets its contract.
use Rattle.text.proofs.inner.print.Goals as goal

pub returns : goal.returns
returns c = rw (c.line_of-line.ensures.0.text, c.position_of.ensures) at c.copy.ensures
