-- `men::inner::pawn_beside` meets its contract.
use Rattle.laws.specs.Boards.{men_at}
use Rattle.men.proofs.Beside.{beside_is}
use Rattle.men.proofs.inner.pawn_beside.Goals as goal

pub returns : goal.returns
returns c = rw (c.men_of.ensures, c.next_to-near.ensures) (beside_is (men_at c.args.pieces c.args.colors) c.args.color c.args.sq)
