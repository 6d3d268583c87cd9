-- `moves::inner::pawn_moves` meets its contract.
use mathlib.Core.Path.{◌∙◌}
use Rattle.squares.specs.Tests.{◌and◌, ◌or◌}
use Rattle.laws.specs.Boards.{men_in}
use Rattle.moves.proofs.Steps.{pawn_takes_lem, pawn_goes}
use Rattle.moves.proofs.inner.pawn_moves.Goals as goal

pub returns-then-u-ne0 : goal.returns-then-u-ne0
returns-then-u-ne0 c = c.has.ensures ∙ rw c.get_pawn_attacks.ensures (pawn_takes_lem (men_in c.args.p) c.args.c c.args.from c.args.to c.args.u c.requires.1.1 c.if-u-ne0.true)

pub returns : goal.returns
unfolding ◌and◌ ◌or◌
returns c = rw (c.has-one.ensures, c.has-two.ensures, c.is_free-path.ensures, c.pawn_step.ensures, c.pawn_double.ensures) (pawn_goes (men_in c.args.p) c.args.c c.args.from c.args.to c.args.u c.requires.1.1 c.if-u-ne0.false)
