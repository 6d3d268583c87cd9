-- `strict_sets::inner::asked::special` meets its contract.
use mathlib.Core.Path.{◌∙◌, sym, ap}
use borrow.Author.Tests.{ne_eqb}
use Prim.Native.Nat.{ℕ}
use Rattle.squares.specs.Squares.{set_of, only}
use Rattle.laws.specs.Men.{Man}
use Rattle.position.specs.inner.Edits.{color_by}
use Rattle.strict_sets.specs.inner.Parts.{special}
use Rattle.moves.proofs.Steps.{man_is}
use Rattle.laws.specs.declared.Piece.TheVariants.{Pawn, King}
use Rattle.position.proofs.Editing.{kind_on}
use Rattle.strict_sets.proofs.Asked.{pawn_special, king_special, none_special}
use Rattle.strict_sets.proofs.inner.asked.special.Goals as goal

pub special_pawn-requires : goal.special_pawn-requires
special_pawn-requires c = c.requires.1

pub returns-then-kind-eq1 : goal.returns-then-kind-eq1
returns-then-kind-eq1 c = c.special_pawn.ensures ∙ pawn_special c.args.c (color_by c.args.x) c.args.s ∙ ap (λ (z : Man). set_of (special c.args.c z c.args.s)) (sym (man_is c.args.x 1 c.requires.0 c.if-kind-eq1.true))

pub returns-then-kind-eq6 : goal.returns-then-kind-eq6
returns-then-kind-eq6 c = c.bit.ensures ∙ ap (λ (k : ℕ). only k) c.king_home.ensures.0 ∙ king_special c.args.c (color_by c.args.x) c.args.s ∙ ap (λ (z : Man). set_of (special c.args.c z c.args.s)) (sym (man_is c.args.x 6 c.requires.0 c.if-kind-eq6.true))

pub returns : goal.returns
returns c = none_special c.args.c _ c.args.s (sym (kind_on c.args.x c.requires.0 Pawn) ∙ ne_eqb _ 1 c.if-kind-eq1.false) (sym (kind_on c.args.x c.requires.0 King) ∙ ne_eqb _ 6 c.if-kind-eq6.false)
