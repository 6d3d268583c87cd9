-- `volume_body::inner::raw_of` meets its contract.
use mathlib.Core.Path.{◌∙◌, ap}
use Rattle.laws.specs.Boards.{kind_sets, color_sets}
use Rattle.volume_body.proofs.Inverse.{numbers_men}
use Rattle.volume_body.proofs.inner.raw_of.Goals as goal

pub returns : goal.returns
returns c =
    let m = numbers_men c.args.t.now _ c.numbers.ensures in
    simp (c.sets_of-sets.ensures.0 ∙ ap kind_sets m, c.sets_of-sets.ensures.1 ∙ ap color_sets m, c.color_of-turn.ensures, c.side_of-white.ensures, c.side_of-black.ensures, c.flag_of-passant.ensures, c.terms_of-terms.ensures)
