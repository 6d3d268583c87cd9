-- `listing::inner::count` meets its contract.
use mathlib.Core.Path.{ap}
use Prim.Native.Nat.{◌-◌}
use native.Mathlib.Omega.{arith}
use lib.ListN.{length}
use Rattle.listing.proofs.Walking.{list_counts, list_over}
use Rattle.listing.proofs.inner.count.Goals as goal

pub offset_bounds-list-i : goal.offset_bounds-list-i
offset_bounds-list-i c = omega (arith, c.requires.most)

pub bounds-list-i : goal.bounds-list-i
bounds-list-i c = omega (arith, c.requires.most)

pub count_entry-n-requires : goal.count_entry-n-requires
count_entry-n-requires c = tt

pub overflow_add-n : goal.overflow_add-n
overflow_add-n c = record { fits = (list_counts c.args.masks.now c.requires c.loop-i.i c.loop-i.n c.loop-i-test.true c.loop-i.invariant.1 c.count_entry-n.ensures).0 }

pub loop-i-preserved : goal.loop-i-preserved
loop-i-preserved c = (omega arith, (list_counts c.args.masks.now c.requires c.loop-i.i c.loop-i.n c.loop-i-test.true c.loop-i.invariant.1 c.count_entry-n.ensures).1)

pub returns : goal.returns
returns c = omega (arith, ap length (list_over c.args.masks.now c.requires c.loop-i.i c.loop-i-test.false), c.loop-i.invariant.1)
