-- `strict_sets::inner::coming::comes_from` meets its contract.
use Rattle.laws.specs.Men.{man_of}
use Rattle.laws.specs.Boards.{men_in}
use Rattle.strict_sets.proofs.Coming.{comes_set}
use Rattle.strict_sets.proofs.inner.coming.comes_from.Goals as goal

pub steps_from-requires : goal.steps_from-requires
steps_from-requires c = c.requires

pub returns : goal.returns
returns c = comes_set (men_in c.args.p) (man_of c.args.x) c.args.taking c.args.s c.steps_from.ensures c.occupied-occ.ensures
