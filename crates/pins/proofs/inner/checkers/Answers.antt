-- `pins::inner::checkers` meets its contract.
use Rattle.pins.proofs.OneKing.{checkers_is}
use Rattle.pins.proofs.inner.checkers.Goals as goal

pub attackers-requires : goal.attackers-requires
attackers-requires c = (c.requires.0, c.king_square-q.ensures.here)

pub returns : goal.returns
returns c = rw (c.attackers.ensures, c.other-d.ensures) (checkers_is c.args.pieces c.args.colors c.args.color c.king_square-q.result c.requires.0 c.king_square-q.ensures)
