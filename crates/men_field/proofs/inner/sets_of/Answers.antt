-- `men_field::inner::sets_of` meets its contract.
use mathlib.Core.Path.{◌∙◌}
use Rattle.geometry.specs.declared.Color.TheVariants.{White, Black}
use Rattle.laws.specs.declared.Piece.TheVariants.{Pawn, Knight, Bishop, Rook, Queen, King}
use Rattle.laws.specs.Boards.{kind_sets, color_sets}
use Rattle.men_field.proofs.Belonging.{kind_set, color_set}
use Rattle.men_field.proofs.inner.sets_of.Goals as goal

pub returns : goal.returns
unfolding kind_sets color_sets
returns c =
    let l = c.args.men in (
      simp (c.set_of.ensures ∙ kind_set l Pawn, c.set_of-2.ensures ∙ kind_set l Knight, c.set_of-3.ensures ∙ kind_set l Bishop, c.set_of-4.ensures ∙ kind_set l Rook, c.set_of-5.ensures ∙ kind_set l Queen, c.set_of-6.ensures ∙ kind_set l King),
      simp (c.set_of-7.ensures ∙ color_set l White, c.set_of-8.ensures ∙ color_set l Black),
    )
