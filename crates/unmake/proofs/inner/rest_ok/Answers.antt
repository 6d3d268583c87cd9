-- `unmake::inner::rest_ok` meets its contract.
use mathlib.Core.Path.{◌∙◌, ap}
use Rattle.laws.specs.Men.{Man, is_pawn}
use Rattle.laws.specs.Boards.{men_in, pos_at}
use Rattle.position.proofs.Editing.{is_man}
use Rattle.unmake.proofs.Answering.{rest_is}
use Rattle.unmake.proofs.inner.rest_ok.Goals as goal

pub returns : goal.returns
returns c = rest_is c.args.c (pos_at c.args.e) c.args.r c.args.k c.requires.1 (c.is_pawn-pawn.ensures ∙ ap (λ (z : Man). is_pawn z) (is_man (men_in c.args.e c.args.r.target) c.man_at-x.ensures.0)) c.possible.ensures
