-- `listing::inner::fill_target` meets its contract.
use mathlib.Core.Path.{refl, ap}
use native.Mathlib.Omega.{arith}
use lib.ListN.{length}
use Rattle.listing.proofs.Filling.{filling_starts, filling_on, filling_done, fills_one}
use Rattle.listing.proofs.Walking.{low_starts, low_on, target_after, target_over, in_range}
use Rattle.listing.proofs.inner.fill_target.Goals as goal

pub loop-u-init : goal.loop-u-init
loop-u-init c = rw (c.into_iter-u-iterator.ensures.into_iter_gives, c.each-u-items.ensures) (low_starts c.requires.1, filling_starts _ _ _ c.requires.3)

pub pack-requires : goal.pack-requires
pack-requires c = in_range _ _ c.in-Some.ensures.steps c.requires.0 c.requires.2 c.loop-u.invariant.0

pub offset_bounds-slots-n : goal.offset_bounds-slots-n
offset_bounds-slots-n c = omega (arith, ap length (target_after _ _ c.in-Some.ensures.steps c.args.source c.args.unpromotion c.args.target), c.loop-u.invariant.1.fits)

pub bounds-slots-n : goal.bounds-slots-n
bounds-slots-n c = omega (arith, ap length (target_after _ _ c.in-Some.ensures.steps c.args.source c.args.unpromotion c.args.target), c.loop-u.invariant.1.fits)

pub overflow_add-n : goal.overflow_add-n
overflow_add-n c = omega (arith, ap length (target_after _ _ c.in-Some.ensures.steps c.args.source c.args.unpromotion c.args.target), c.loop-u.invariant.1.fits)

pub loop-u-preserved : goal.loop-u-preserved
loop-u-preserved c =
    let m = c.in-Some.ensures.steps in
    (low_on _ _ m c.loop-u.invariant.0, filling_on c.loop-u.invariant.1 _ _ (target_after _ _ m _ _ _) (fills_one _ _ _ _ _ c.pack.ensures refl))

pub shape_of-slots : goal.shape_of-slots
shape_of-slots c = c.loop-u.invariant.1.same

pub returns : goal.returns
returns c = filling_done c.loop-u.invariant.1 (target_over _ c.in-None.ensures.steps.0 _ _ _)
