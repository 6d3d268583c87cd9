-- `men::inner::number` meets its contract.
use Rattle.laws.specs.Boards.{men_at}
use Rattle.men.proofs.Having.{size_men_of}
use Rattle.men.proofs.inner.number.Goals as goal

pub returns : goal.returns
returns c = rw (c.count.ensures, c.men_of.ensures) (size_men_of (men_at c.args.pieces c.args.colors) c.args.color c.args.kind)
