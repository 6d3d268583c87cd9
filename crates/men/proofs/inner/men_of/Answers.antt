-- `men::inner::men_of` meets its contract.
use Rattle.men.proofs.Having.{men_of_is}
use Rattle.men.proofs.inner.men_of.Goals as goal

pub returns : goal.returns
returns c = rw (c.piece_place-k.ensures.0, c.color_place-c.ensures.0) (men_of_is c.args.pieces c.args.colors c.requires c.args.color c.args.kind)
