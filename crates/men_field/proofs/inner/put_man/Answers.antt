-- `men_field::inner::put_man` meets its contract.
use Rattle.men_field.proofs.Adding.{man_none}
use Rattle.men_field.proofs.inner.put_man.Goals as goal

pub returns-then-b-eq0 : goal.returns-then-b-eq0
returns-then-b-eq0 c = man_none _ _ c.if-b-eq0.true
