-- `square_names::inner::put_squares` meets its contract.
use Rattle.output.proofs.Added.{used_adds}
use Rattle.output.proofs.Adding.{adds_as}
use Rattle.square_names.proofs.Squares.{dash_is, others_room, names_added}
use Rattle.square_names.proofs.inner.put_squares.Goals as goal

pub returns-then-set-eq0 : goal.returns-then-set-eq0
returns-then-set-eq0 c = adds_as _ _ _ _ _ _ (used_adds _ _ _ _ _ c.put_bytes.ensures _ c.unwrap_or.ensures) (dash_is c.if-set-eq0.true)

pub put_all_spaced-requires : goal.put_all_spaced-requires
put_all_spaced-requires c = others_room c.ranges.set.fits c.if-set-eq0.false c.lowest-first.ensures c.without.ensures _ _ _ _ c.requires (adds_as _ _ _ _ _ _ (used_adds _ _ _ _ _ c.put_bytes-2.ensures _ c.unwrap_or-at.ensures) c.name.ensures)

pub returns : goal.returns
returns c = names_added c.ranges.set.fits c.if-set-eq0.false c.lowest-first.ensures c.without.ensures _ _ _ _ c.requires (adds_as _ _ _ _ _ _ (used_adds _ _ _ _ _ c.put_bytes-2.ensures _ c.unwrap_or-at.ensures) c.name.ensures) _ _ c.put_all_spaced.ensures
