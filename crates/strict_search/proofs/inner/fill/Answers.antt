-- `strict_search::inner::fill` meets its contract.
use mathlib.Core.Path.{refl, sym, ap, ◌∙◌}
use native.Mathlib.Omega.{arith}
use lib.ListN.{length}
use Rattle.slots.specs.Slots.{fill_from}
use Rattle.slots.proofs.Filling.{fill_on}
use Rattle.strict_search.specs.inner.Keeping.{kept_test}
use Rattle.strict_search.proofs.Remaining.{kept_rest, over, placed_in}
use Rattle.strict_search.proofs.Sourcing.{kept_here, kept_on}
use Rattle.strict_search.proofs.inner.fill.Goals as goal

pub loop-i-init : goal.loop-i-init
loop-i-init c = (omega arith, (omega (arith, c.requires, ap length (kept_rest c.args.kept.now)), (refl, ap (fill_from c.args.slots.now 0) (sym (kept_rest c.args.kept.now)))))

pub first_in-j-requires : goal.first_in-j-requires
first_in-j-requires c = c.loop-i-test.true

pub candidate-requires : goal.candidate-requires
candidate-requires c = omega (arith, c.if-j-i.true, c.loop-i-test.true)

pub pack-requires : goal.pack-requires
pack-requires c = rw c.candidate.ensures (placed_in _ (omega (arith, c.if-j-i.true, c.loop-i-test.true)))

pub offset_bounds-slots-n : goal.offset_bounds-slots-n
offset_bounds-slots-n c = omega (arith, c.loop-i.invariant.1.0, ap length (kept_here c.args.kept.now _ _ _ c.loop-i-test.true c.kept_at-w.ensures c.first_in-j.ensures c.if-j-i.true))

pub bounds-slots-n : goal.bounds-slots-n
bounds-slots-n c = omega (arith, c.loop-i.invariant.1.0, ap length (kept_here c.args.kept.now _ _ _ c.loop-i-test.true c.kept_at-w.ensures c.first_in-j.ensures c.if-j-i.true))

pub overflow_add-n : goal.overflow_add-n
overflow_add-n c = omega (arith, c.loop-i.invariant.1.0, ap length (kept_here c.args.kept.now _ _ _ c.loop-i-test.true c.kept_at-w.ensures c.first_in-j.ensures c.if-j-i.true))

pub overflow_add-i : goal.overflow_add-i
overflow_add-i c = omega (arith, c.first_in-j.ensures.skips.most)

pub loop-i-smaller-then-j-i : goal.loop-i-smaller-then-j-i
loop-i-smaller-then-j-i c = omega (arith, c.first_in-j.ensures.skips.on)

pub loop-i-preserved-then-j-i : goal.loop-i-preserved-then-j-i
loop-i-preserved-then-j-i c =
    (omega (arith, c.if-j-i.true, c.loop-i-test.true), fill_on c.loop-i.slots c.args.slots.now _ c.loop-i.n _ _ _ _ (kept_here c.args.kept.now _ _ _ c.loop-i-test.true c.kept_at-w.ensures c.first_in-j.ensures c.if-j-i.true) (rw c.candidate.ensures at c.pack.ensures) c.loop-i.invariant.1.0 c.loop-i.invariant.1.1.0 c.loop-i.invariant.1.1.1)

pub loop-i-smaller : goal.loop-i-smaller
loop-i-smaller c = omega (arith, c.first_in-j.ensures.skips.on)

pub loop-i-preserved : goal.loop-i-preserved
loop-i-preserved c = (c.first_in-j.ensures.skips.most, (rw (kept_on c.args.kept.now _ _ _ c.loop-i-test.true c.kept_at-w.ensures c.first_in-j.ensures) at c.loop-i.invariant.1))

pub returns : goal.returns
unfolding fill_from
returns c = sym (ap (fill_from c.loop-i.slots c.loop-i.n) (over (kept_test c.args.kept.now) c.loop-i.i c.loop-i.invariant.0 (omega arith))) ∙ c.loop-i.invariant.1.1.1
