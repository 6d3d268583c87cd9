-- `double_step::inner::unstepped` meets its contract.
use Rattle.double_step.proofs.PutBack.{lifted_clean, put_back}
use Rattle.double_step.proofs.inner.unstepped.Goals as goal

pub put_man-requires : goal.put_man-requires
put_man-requires c = (lifted_clean c.args.e c.args.c c.args.q c.requires.1 c.requires.2 c.put_man-lifted.ensures, c.man_number-pawn.ensures.1)

pub returns : goal.returns
returns c = put_back c.args.e c.args.c c.args.q c.requires.1 c.requires.2 c.put_man-lifted.ensures c.put_man.ensures c.behind-crossed.ensures.0 c.behind-home.ensures.0 c.man_number-pawn.ensures.0
