-- `moves::inner::man_moves` meets its contract.
use mathlib.Core.Path.{◌∙◌}
use native.Mathlib.Omega.{arith}
use Rattle.laws.specs.Boards.{men_in}
use Rattle.position.specs.inner.Edits.{color_by}
use Rattle.position.proofs.Editing.{man_split}
use Rattle.moves.proofs.Steps.{man_is, knight_goes, king_goes, slide_goes}
use Rattle.moves.proofs.inner.man_moves.Goals as goal

pub returns-then-k-eq1 : goal.returns-then-k-eq1
returns-then-k-eq1 c = rw (man_is c.args.x 1 c.requires.1.2 c.if-k-eq1.true, ← c.color_of-c.ensures) c.pawn_moves.ensures

pub returns-then-k-eq2 : goal.returns-then-k-eq2
returns-then-k-eq2 c = rw (man_is c.args.x 2 c.requires.1.2 c.if-k-eq2.true) (c.has.ensures ∙ rw c.get_knight_moves.ensures (knight_goes (men_in c.args.p) (color_by c.args.x) c.args.from c.args.to c.args.u c.requires.1.1))

pub returns-then-k-eq6 : goal.returns-then-k-eq6
returns-then-k-eq6 c = rw (man_is c.args.x 6 c.requires.1.2 c.if-k-eq6.true) (c.has-then-k-eq6.ensures ∙ rw c.get_king_moves.ensures (king_goes (men_in c.args.p) (color_by c.args.x) c.args.from c.args.to c.args.u c.requires.1.1))

pub returns : goal.returns
returns c = rw (man_split c.args.x c.requires.1.2) (c.slides_to.ensures ∙ slide_goes (men_in c.args.p) (color_by c.args.x) _ c.args.from c.args.to c.args.u (omega arith) c.if-k-eq1.false c.if-k-eq2.false c.if-k-eq6.false)
