-- `listing::inner::list` meets its contract.
use mathlib.Core.Path.{ap, ◌∙◌}
use Rattle.uncaptured.specs.Masks.{masks_of}
use Rattle.retraction_gen.specs.Making.{masks_on}
use Rattle.listing.proofs.Told.{full_told, list_ready, told}
use Rattle.listing.proofs.inner.list.Goals as goal

pub returns-then-list : goal.returns-then-list
returns-then-list c = full_told _ _ c.requires.1 c.entries-list.ensures _ c.if-list.true

pub list_from-requires : goal.list_from-requires
list_from-requires c = list_ready _ _ c.requires.1 c.entries-list.ensures c.if-list.false

pub returns : goal.returns
unfolding masks_on
returns c = told _ _ c.requires.1 c.entries-list.ensures c.if-list.false c.candidates-masks.result _ _ c.list_from.result (c.candidates-masks.ensures ∙ ap masks_of c.position_of.ensures) c.list_from.ensures
