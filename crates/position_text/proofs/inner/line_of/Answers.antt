-- `position_text::inner::line_of` meets its contract.
use Rattle.position_text.proofs.Tails.{line_done}
use Rattle.position_text.proofs.inner.line_of.Goals as goal

pub returns : goal.returns
returns c = line_done _ _ _ _ _ c.put_men-men.ensures.0 c.put_tail.ensures
