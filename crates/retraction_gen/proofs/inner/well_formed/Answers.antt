-- `retraction_gen::inner::well_formed` meets its contract.
use mathlib.Core.Path.{◌≡◌, sym}
use Prim.Native.Nat.{suc-le-suc}
use native.Mathlib.Omega.{arith}
use borrow.Author.Rules.{rules}
use borrow.Author.Tests.{le-leb, lt-leb}
use Rattle.squares.specs.Tests.{◌and◌}
use Rattle.retraction_list.specs.Entries.{sound}
use Rattle.retraction_gen.specs.Cursors.{well_formed}
use Rattle.retraction_gen.proofs.Sources.{sound_more, sound_bad}
use Rattle.retraction_gen.proofs.inner.well_formed.Goals as goal

pub returns-then-len-gt47 : goal.returns-then-len-gt47
unfolding well_formed ◌and◌
returns-then-len-gt47 c = rw (lt-leb _ _ c.if-len-gt47.true)

pub loop-i-init : goal.loop-i-init
unfolding sound
loop-i-init c = search rules

pub returns-then-g-i-gt63 : goal.returns-then-g-i-gt63
unfolding well_formed ◌and◌
returns-then-g-i-gt63 c = rw (le-leb _ _ c.if-len-gt47.false, sound_bad _ _ _ c.loop-i-test.true c.if-g-i-gt63.true)

pub loop-i-preserved : goal.loop-i-preserved
loop-i-preserved c = (omega arith, sound_more c.args.g.entries c.loop-i.i c.loop-i.invariant.1 (suc-le-suc c.if-g-i-gt63.false))

pub returns : goal.returns
unfolding well_formed ◌and◌
returns c =
    let e : c.loop-i.i ≡ c.args.g.len = omega arith in
    rw (le-leb _ _ c.if-len-gt47.false) (sym (rw e at c.loop-i.invariant.1))
