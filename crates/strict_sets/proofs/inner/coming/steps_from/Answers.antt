-- `strict_sets::inner::coming::steps_from` meets its contract.
use mathlib.Core.Path.{◌∙◌, sym, ap}
use borrow.Author.Tests.{eqb-true}
use Rattle.geometry.specs.declared.Color.{Color}
use Rattle.squares.specs.Squares.{set_of}
use Rattle.laws.specs.Men.{Man, man_of}
use Rattle.laws.specs.Boards.{men_in}
use Rattle.position.specs.inner.Edits.{color_by}
use Rattle.strict_sets.specs.inner.Parts.{pawn_at, steps_at}
use Rattle.moves.proofs.Steps.{man_is}
use Rattle.strict_sets.proofs.Coming.{pawn_steps, other_steps}
use Rattle.laws.specs.declared.Piece.TheVariants.{Pawn}
use Rattle.position.proofs.Editing.{kind_on}
use Rattle.strict_sets.proofs.inner.coming.steps_from.Goals as goal

pub is_pawn-requires : goal.is_pawn-requires
is_pawn-requires c = c.requires.1

pub pawn_from-requires : goal.pawn_from-requires
pawn_from-requires c = c.requires.2

pub returns-then-is_pawn : goal.returns-then-is_pawn
returns-then-is_pawn c = c.pawn_from.ensures ∙ ap (λ (z : Color). set_of (pawn_at z c.args.taking c.args.s)) c.color_of-c.ensures ∙ pawn_steps (men_in c.args.p) (color_by c.args.x) c.args.taking c.args.s ∙ ap (λ (z : Man). set_of (steps_at (men_in c.args.p) z c.args.taking c.args.s)) (sym (man_is c.args.x 1 c.requires.1 (eqb-true _ _ (kind_on c.args.x c.requires.1 Pawn ∙ sym c.is_pawn.ensures ∙ c.if-is_pawn.true))))

pub seen_from-requires : goal.seen_from-requires
seen_from-requires c = (c.requires.0, c.requires.1, c.requires.2)

pub returns : goal.returns
returns c = c.seen_from.ensures ∙ other_steps (men_in c.args.p) (man_of c.args.x) c.args.taking c.args.s (sym c.is_pawn.ensures ∙ c.if-is_pawn.false)
