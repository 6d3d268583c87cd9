-- `listing::inner::fill` meets its contract.
use Prim.Native.Nat.{◌-◌}
use native.Mathlib.Omega.{arith}
use Rattle.listing.proofs.Filling.{filling_starts, filling_on, filling_done}
use Rattle.listing.proofs.Walking.{list_after, list_room, list_source, list_over}
use Rattle.listing.proofs.inner.fill.Goals as goal

pub loop-i-init : goal.loop-i-init
loop-i-init c = (omega arith, filling_starts _ _ _ (omega (arith, c.requires.1)))

pub offset_bounds-list-i : goal.offset_bounds-list-i
offset_bounds-list-i c = omega (arith, c.requires.0.most)

pub bounds-list-i : goal.bounds-list-i
bounds-list-i c = omega (arith, c.requires.0.most)

pub fill_entry-n-requires : goal.fill_entry-n-requires
fill_entry-n-requires c = (list_source c.args.masks.now c.requires.0 _ c.loop-i-test.true, list_room c.args.masks.now c.requires.0 _ c.loop-i-test.true c.loop-i.invariant.1)

pub loop-i-preserved : goal.loop-i-preserved
loop-i-preserved c = (omega arith, filling_on c.loop-i.invariant.1 _ _ (list_after c.args.masks.now c.requires.0 _ c.loop-i-test.true) c.fill_entry-n.ensures)

pub shape_of-slots : goal.shape_of-slots
shape_of-slots c = c.loop-i.invariant.1.same

pub returns : goal.returns
returns c = (filling_done c.loop-i.invariant.1 (list_over c.args.masks.now c.requires.0 _ c.loop-i-test.false)).slots
