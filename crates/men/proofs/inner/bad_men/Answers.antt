-- `men::inner::bad_men` meets its contract.
use Rattle.men.proofs.Having.{bad_men_is}
use Rattle.men.proofs.inner.bad_men.Goals as goal

pub returns : goal.returns
returns c = rw c.unclear.ensures (bad_men_is c.args.pieces c.args.colors)
