-- `strict_search::inner::places::first_in` meets its contract.
use native.Mathlib.Omega.{arith}
use Rattle.strict_search.specs.inner.Searching.{holds_in}
use Rattle.strict_search.proofs.Skipping.{skips_none}
use Rattle.strict_search.proofs.Jumping.{no_targets, found, passed, at_end}
use Rattle.strict_search.proofs.inner.places.first_in.Goals as goal

pub returns-then-all-eq0 : goal.returns-then-all-eq0
returns-then-all-eq0 c = no_targets c.args.w c.args.i c.requires c.if-all-eq0.true

pub loop-j-init : goal.loop-j-init
loop-j-init c = (skips_none (holds_in c.args.w) c.args.i (omega arith), omega arith)

pub returns-then-left-ne0 : goal.returns-then-left-ne0
returns-then-left-ne0 c = found c.args.w c.loop-j.j c.twelve.result c.twelve.ensures c.args.i c.requires c.loop-j.invariant.0 c.loop-j-test.true _ c.if-left-ne0.true c.lowest.ensures

pub jump-j-requires : goal.jump-j-requires
jump-j-requires c = omega (arith, c.requires, c.loop-j-test.true)

pub loop-j-smaller : goal.loop-j-smaller
loop-j-smaller c = omega (arith, c.jump-j.ensures.on)

pub loop-j-preserved : goal.loop-j-preserved
loop-j-preserved c = passed c.args.w c.loop-j.j c.twelve.result c.twelve.ensures c.args.i c.requires c.loop-j.invariant.0 c.loop-j-test.true _ c.if-left-ne0.false c.jump-j.ensures

pub returns : goal.returns
returns c = at_end c.args.w c.args.i c.loop-j.j c.loop-j.invariant.0 c.loop-j.invariant.1 c.loop-j-test.false
